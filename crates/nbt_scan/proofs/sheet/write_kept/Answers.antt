use Rattle.std.proofs.Common.{◌++◌, ◌∙◌, List, ap, refl, arith, rules}
use Rattle.std.proofs.lemmas.List.{take_all}
use Rattle.std.proofs.lemmas.List.Sorted.{IsNonDecreasingBy-from_sort_by_key}
use Rattle.std.specs.List.{flat_map}
use Rattle.std.specs.String.{string_bytes}
use Rattle.nbt_scan.specs.declared.sheet.Kept.{Kept}
use Rattle.nbt_scan.proofs.sheet.write_kept.Goals as goal

pub returns : goal.returns
returns c =
    let items = c.sort_by_key.new.self.items in
    let given = c.deref-host-items.result.now in
    let out = string_bytes c.args.out.now in (
      flat_map (λ (host : Kept). string_bytes host.text) items,
      record {
        sorted = items;
        same = c.in_ok-sort_by_key.ensures.permutation;
        ascending = IsNonDecreasingBy-from_sort_by_key (λ (host : Kept). host.ip) _ c.in_ok-sort_by_key.ensures.sorted (λ a r q k. search rules);
        lines_are = refl;
      },
      c.loop-host.invariant ∙ ap (λ (hosts : List Kept). out ++ flat_map (λ (host : Kept). string_bytes host.text) hosts) (take_all c.loop-host.host-index given (omega arith) ∙ c.deref-host-items.ensures.value),
    )
