use Rattle.std.proofs.Common.{◌≡◌, ℕ, List, length, ◌∙◌, ◌++◌, sym, ap, subst, arith}
use Rattle.std.specs.List.{Contains, flat_map}
use Rattle.std.specs.List.Sorted.{IsStrictlyIncreasing}
use Rattle.std.proofs.lemmas.List.Filters.{dedup_is}
use Rattle.std.proofs.lemmas.List.Kept.{Contains-dedup_nat, Contains-from_dedup, AllPairs-from_increasing}
use Rattle.std.proofs.lemmas.List.Sorted.{Contains-permutation, IsPermutation-sym}
use Rattle.std.proofs.lemmas.Map.Keys.{IsStrictlyIncreasing-dedup}
use Rattle.nbt_scan.specs.Spans.{ips_of}
use Rattle.nbt_scan.proofs.Sizes.{all_few}
use Rattle.nbt_scan.proofs.spans.addresses_of.Goals as goal

pub returns : goal.returns
returns c =
    let is = dedup_is _ _ _ c.dedup.ensures.filtered in
    let moved = c.sort_unstable.ensures.permutation in
    let rises : IsStrictlyIncreasing c.dedup.new.self.items = rw is (IsStrictlyIncreasing-dedup _ c.sort_unstable.ensures.sorted) in
    let given = flat_map ips_of c.args.spans.now in
    let all : c.push_spans.new.ips.items ≡ given = c.in_ok-push_spans.ensures ∙ ap (λ (front : List ℕ). front ++ given) c.new-ips.ensures.items in
    record {
      ascending = λ i j less within. AllPairs-from_increasing c.dedup.new.self.items rises i j 0 less within;
      same = λ ip. (
        (λ h. subst (λ (xs : List ℕ). Contains xs ip) all (Contains-permutation _ _ ip (IsPermutation-sym _ _ moved) (Contains-from_dedup _ _ ip (rw is at h)))),
        (λ h. rw is (Contains-dedup_nat _ ip (Contains-permutation _ _ ip moved (subst (λ (xs : List ℕ). Contains xs ip) (sym all) h)))),
      );
      few = omega (arith, c.dedup.ensures.bound, c.dedup.new.self.ok.0, c.sort_unstable.ensures.len, c.push_spans.new.ips.ok.0, ap length all, all_few c.args.spans.now c.requires);
    }
