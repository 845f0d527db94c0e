-- The turns of a node: none, one after others, and one that ends them.
use Rattle.std.proofs.Common.{ℕ, ◌+◌, ◌<◌, [], ◌∷◌, ◌++◌, refl, sym, ap, subst, ◌∙◌, length-append}
use Rattle.nbt_name.specs.declared.addr.Addr.{Addr}
use Rattle.nbt_port.specs.PortCalls.{PortCall}
use Rattle.nbt_port.proofs.Chains.{chain-append}
use Rattle.nbt_client.specs.declared.turning.Seen.{Seen}
use Rattle.nbt_client.specs.declared.turning.Want.{Want}
use Rattle.nbt_bench.specs.Node.{Running, Turns, TakesTurns, EndsTurns}

pub no_turns : {P C : Type 0} (does : P → PortCall → P → Type 0) (tells : C → ℕ → C → Type 0) (server : Addr) (want : Want) (here : Running P C) → TakesTurns does tells server want 0 here here
no_turns does tells server want here = record { seen = []; turns = refl; count_is = refl }

pub turns_on : {P C : Type 0} (does : P → PortCall → P → Type 0) (tells : C → ℕ → C → Type 0) (server : Addr) (want : Want) (count : ℕ) (old mid new : Running P C) (one : Seen)
    → TakesTurns does tells server want count old mid → Turns does tells server want mid one new → TakesTurns does tells server want (count + 1) old new
turns_on does tells server want count old mid new one before turn = record {
  seen = before.seen ++ one ∷ [];
  turns = chain-append (Turns does tells server want) old mid new before.seen (one ∷ []) before.turns (new, turn, refl);
  count_is = length-append before.seen (one ∷ []) ∙ ap (λ (n : ℕ). n + 1) before.count_is;
}

pub turns_end : {P C : Type 0} (does : P → PortCall → P → Type 0) (tells : C → ℕ → C → Type 0) (server : Addr) (want : Want) (ends : Running P C → Running P C → Type 0) (count turns : ℕ) (old mid new : Running P C)
    → count < turns → TakesTurns does tells server want count old mid → ends mid new → EndsTurns does tells server want ends turns old new
turns_end does tells server want ends count turns old mid new fewer before last = record {
  seen = before.seen;
  mid = mid;
  turns = before.turns;
  fewer = subst (λ (n : ℕ). n < turns) (sym before.count_is) fewer;
  ended = last;
}
