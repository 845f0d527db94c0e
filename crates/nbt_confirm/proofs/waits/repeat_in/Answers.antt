use Rattle.std.proofs.Common.{ℕ, Option, Some, set, sym, ap, ◌∙◌}
use Rattle.std.specs.List.{position}
use Rattle.nbt_confirm.specs.Waiting.{way_in, inquiry_in, is_to_repeat, query_octets, repeated}
use Rattle.nbt_confirm.specs.declared.waits.Pending.{Pending}
use Rattle.nbt_confirm.proofs.Firsts.{none_is, none_set, set_is, taken_is}
use Rattle.nbt_confirm.proofs.waits.repeat_in.Goals as goal

pub returns-in_err-place-clause-sends : goal.returns-in_err-place-clause-sends
returns-in_err-place-clause-sends c =
    let items = c.args.pending.now.items in
    let at = ap (λ (n : ℕ). position (is_to_repeat n) items) (sym c.get.ensures.value) ∙ (ap (position (is_to_repeat c.get.result)) (sym c.as_slice.ensures.value) ∙ (sym c.place_to_repeat.ensures ∙ c.in_err-place.was)) in
    let none = none_is (is_to_repeat c.args.now) items at in
    record {
      to_is = c.from_residual.ensures ∙ sym (ap (λ (p : Option Pending). way_in (inquiry_in p)) none);
      octets_are = c.clear.ensures ∙ sym (ap (λ (p : Option Pending). query_octets (inquiry_in p)) none);
    }

pub returns-in_err-place-clause-pending : goal.returns-in_err-place-clause-pending
returns-in_err-place-clause-pending c =
    let items = c.args.pending.now.items in
    let at = ap (λ (n : ℕ). position (is_to_repeat n) items) (sym c.get.ensures.value) ∙ (ap (position (is_to_repeat c.get.result)) (sym c.as_slice.ensures.value) ∙ (sym c.place_to_repeat.ensures ∙ c.in_err-place.was)) in
    sym (none_set (is_to_repeat c.args.now) (repeated c.args.now) items at)

pub returns-clause-sends : goal.returns-clause-sends
returns-clause-sends c =
    let items = c.args.pending.now.items in
    let at = ap (λ (n : ℕ). position (is_to_repeat n) items) (sym c.get.ensures.value) ∙ (ap (position (is_to_repeat c.get.result)) (sym c.as_slice.ensures.value) ∙ (sym c.place_to_repeat.ensures ∙ c.in_ok-place.was)) in
    let found = taken_is (is_to_repeat c.args.now) items c.in_ok-place.place c.index-first.result.now at c.index-first.ensures in
    record {
      to_is = ap Some c.way-way.ensures ∙ ap (λ (p : Option Pending). way_in (inquiry_in p)) found;
      octets_are = c.write_inquiry.ensures.form ∙ ap (λ (p : Option Pending). query_octets (inquiry_in p)) found;
    }

pub returns-clause-pending : goal.returns-clause-pending
returns-clause-pending c =
    let items = c.args.pending.now.items in
    let at = ap (λ (n : ℕ). position (is_to_repeat n) items) (sym c.get.ensures.value) ∙ (ap (position (is_to_repeat c.get.result)) (sym c.as_slice.ensures.value) ∙ (sym c.place_to_repeat.ensures ∙ c.in_ok-place.was)) in
    ap (λ (p : Pending). set items c.in_ok-place.place p) c.repeat_one.ensures
    ∙ set_is (is_to_repeat c.args.now) (repeated c.args.now) items c.in_ok-place.place c.index_mut.result.now at c.index_mut.ensures.value
