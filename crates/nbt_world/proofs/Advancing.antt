-- What the code makes of the clocks is a line of the step: each end that is there goes on, and is looked at.
use Rattle.std.proofs.Common.{◌≡◌, ℕ, zero, suc, ◌+◌, ◌<◌, ◌≤◌, Bool, true, false, ◌&&◌, List, [], ◌∷◌, length, Some, refl, sym, ◌∙◌, arith}
use Rattle.std.specs.Prelude.{IsTrue, ◌↔◌, slice_index, replicate}
use Rattle.std.proofs.lemmas.Bool.{and_parts}
use Rattle.std.proofs.lemmas.List.{get_or-replicate}
use Rattle.nbt_name.specs.declared.addr.Addr.{Addr}
use Rattle.nbt_world.specs.declared.clocks.Clocks.{Clocks}
use Rattle.nbt_world.specs.declared.clocks.Least.{Least}
use Rattle.nbt_world.specs.declared.ends.NodeEnd.{NodeEnd}
use Rattle.nbt_world.specs.declared.ends.Ends.{Ends}
use Rattle.nbt_world.specs.Drift.{reading, later, least_of, numbers_of, lesser, IsAllowed, IsAllowedTimely}
use Rattle.nbt_world.specs.World.{WorldValue, addr_at, IsEnd}
use Rattle.nbt_world.specs.Step.{Advances}
use Rattle.nbt_world.proofs.Finding.{in_place}

stands : (nodes : List NodeEnd) (i : ℕ) → i < length nodes → (a : Addr) × (addr_at nodes i ≡ Some a)
stands [] i lt = absurd (omega arith)
stands (x ∷ xs) zero lt = (x.addr, refl)
stands (x ∷ xs) (suc i) lt = stands xs i (omega arith)

-- ends are as many as nodes, and one
pub end_counts : (ends : Ends) (n : ℕ) → IsEnd ends n → n < length ends.nodes.items + 1
end_counts ends zero e = omega arith
end_counts ends (suc i) e = let lt = in_place ends.nodes.items i e.0 e.1 in omega arith

pub count_ends : (ends : Ends) (n : ℕ) → n < length ends.nodes.items + 1 → IsEnd ends n
count_ends ends zero lt = (ends.server_addr, refl)
count_ends ends (suc i) lt = stands ends.nodes.items i (omega arith)

both : (a b : Bool) → a ≡ true → b ≡ true → (a && b) ≡ true
both true b p q = q
both false b p q = absurd cc

pub advanced : {w : WorldValue} {clocks : Clocks} {least : List Least} {allowed timely still still_timely : Bool} {ms : ℕ} {moves : ℕ → ℕ} → length w.ends.nodes.items ≤ 8 → clocks.clock ≡ later w.now.clock ms
    → ((n : ℕ) → n < 9 → reading clocks n ≡ later (reading w.now n) (moves n))
    → ((n : ℕ) → n < length w.ends.nodes.items + 1 → least_of least n ≡ lesser (least_of w.least n) (numbers_of clocks n))
    → (IsTrue allowed ↔ ((n : ℕ) → n < length w.ends.nodes.items + 1 → IsAllowed (least_of least n) clocks n)) → still ≡ (w.kept && allowed)
    → (IsTrue timely ↔ ((n : ℕ) → n < length w.ends.nodes.items + 1 → IsAllowedTimely (least_of least n) clocks n)) → still_timely ≡ (w.timely && timely)
    → Advances w ms moves (record w { now = clocks; least = least; kept = still; timely = still_timely })
advanced {w} {clocks} {least} {allowed} {timely} few goes reads lower says is tells so = record {
  now = goes;
  readings = λ n e. let lt = end_counts w.ends n e in reads n (omega arith);
  least = λ n e. lower n (end_counts w.ends n e);
  kept = (λ on. down (and_parts w.kept allowed (sym is ∙ on)), λ on. is ∙ both w.kept allowed on.0 (says.1 (λ n lt. on.1 n (count_ends w.ends n lt))));
  timely = (λ on. down_timely (and_parts w.timely timely (sym so ∙ on)), λ on. so ∙ both w.timely timely on.0 (tells.1 (λ n lt. on.1 n (count_ends w.ends n lt))));
  others = refl;
}
  where
    down : (w.kept ≡ true) × (allowed ≡ true) → IsTrue w.kept × ((n : ℕ) → IsEnd w.ends n → IsAllowed (least_of least n) clocks n)
    down on = (on.0, λ n e. says.0 on.1 n (end_counts w.ends n e))

    down_timely : (w.timely ≡ true) × (timely ≡ true) → IsTrue w.timely × ((n : ℕ) → IsEnd w.ends n → IsAllowedTimely (least_of least n) clocks n)
    down_timely on = (on.0, λ n e. tells.0 on.1 n (end_counts w.ends n e))

-- all alike
pub alike : (w v : WorldValue) (ms : ℕ) → length w.ends.nodes.items ≤ 8 → Advances w ms (slice_index (replicate 9 ms)) v → Advances w ms (λ n. ms) v
alike w v ms few adv = record {
  now = adv.now;
  readings = λ n e. let lt = end_counts w.ends n e in adv.readings n e ∙ (λ i. later (reading w.now n) (same n (omega arith) i));
  least = adv.least;
  kept = adv.kept;
  timely = adv.timely;
  others = adv.others;
}
  where
    same : (n : ℕ) → n < 9 → slice_index (replicate 9 ms) n ≡ ms
    same n lt = get_or-replicate 9 n ms 0 lt
