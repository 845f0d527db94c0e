use Rattle.std.proofs.Common.{◌≡◌, ◌∙◌, sym, subst, refl, rules, ℕ, List}
use Rattle.nbt_text.specs.Number.{SpellsNumber}
use Rattle.nbt_text.specs.Times.{IsUnit, SpellsTime}
use Rattle.nbt_text.proofs.Deciding.{no_such, found_product, product_found, one_number}
use Rattle.nbt_text.proofs.Times.{time_parts}
use Rattle.nbt_text.proofs.duration.read_duration.Goals as goal

pub returns-in_err-each : goal.returns-in_err-each
returns-in_err-each c = λ time. no_such _ time _ (search rules) (λ (s : SpellsTime c.args.text.now time).
    let p = time_parts c.args.text.now c.digits_before.result.0.now c.digits_before.result.1.now time c.digits_before.ensures s in
    let found = (c.unit_of.ensures s.each).1 (subst (λ (u : List ℕ). IsUnit u s.each) p.1 s.is_unit) in
    let none = c.in_err-each.was in absurd cc)

pub returns-in_err-parse_number : goal.returns-in_err-parse_number
returns-in_err-parse_number c = λ time. no_such _ time _ (search rules) (λ (s : SpellsTime c.args.text.now time).
    let p = time_parts c.args.text.now c.digits_before.result.0.now c.digits_before.result.1.now time c.digits_before.ensures s in
    let found = (c.parse_number.ensures s.number).1 (subst (λ (d : List ℕ). SpellsNumber d s.number) p.0 s.spells) in
    let none = c.in_err-parse_number.was in absurd cc)

pub returns : goal.returns
returns c = λ time. (
  found_product c.checked_mul.result c.in_ok-parse_number.field-0 c.in_ok-each.each (SpellsTime c.args.text.now time) c.checked_mul.ensures time (λ is fits. record {
    digits = c.digits_before.result.0.now;
    unit = c.digits_before.result.1.now;
    number = c.in_ok-parse_number.field-0;
    each = c.in_ok-each.each;
    text_is = c.digits_before.ensures.word_is;
    spells = (c.parse_number.ensures c.in_ok-parse_number.field-0).0 c.in_ok-parse_number.was;
    is_unit = (c.unit_of.ensures c.in_ok-each.each).0 c.in_ok-each.was;
    time_is = is;
    fits = fits;
  }),
  λ (s : SpellsTime c.args.text.now time).
      let p = time_parts c.args.text.now c.digits_before.result.0.now c.digits_before.result.1.now time c.digits_before.ensures s in
      let found = (c.unit_of.ensures s.each).1 (subst (λ (u : List ℕ). IsUnit u s.each) p.1 s.is_unit) in
      let also = (c.parse_number.ensures s.number).1 (subst (λ (d : List ℕ). SpellsNumber d s.number) p.0 s.spells) in
      let each : s.each ≡ c.in_ok-each.each = one_number s.each c.in_ok-each.each (sym found ∙ c.in_ok-each.was) in
      let number : s.number ≡ c.in_ok-parse_number.field-0 = one_number s.number c.in_ok-parse_number.field-0 (sym also ∙ c.in_ok-parse_number.was) in
      product_found c.checked_mul.result c.in_ok-parse_number.field-0 c.in_ok-each.each time c.checked_mul.ensures (s.time_is ∙ rw (each, number) refl) s.fits,
)
