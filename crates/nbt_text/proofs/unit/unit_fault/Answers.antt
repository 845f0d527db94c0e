use Rattle.std.proofs.Common.{◌≡◌, ◌<◌, ℕ, List, None, length, sym, subst, rules, arith}
use Rattle.std.specs.Prelude.{IsTrue}
use Rattle.nbt_text.specs.Number.{SpellsNumber}
use Rattle.nbt_text.specs.Times.{IsOtherUnit, IsUnitFault, missing, unknown, neither}
use Rattle.nbt_text.proofs.Times.{number_parts, other_parts, no_more}
use Rattle.nbt_text.proofs.unit.unit_fault.Goals as goal

pub returns-in_err-parse_number : goal.returns-in_err-parse_number
returns-in_err-parse_number c =
    let same : c.from_residual.result ≡ None = search rules in
    subst (λ r. IsUnitFault c.args.text.now r) (sym same) (neither
    (λ number s.
    let p = number_parts c.args.text.now c.digits_before.result.0.now c.digits_before.result.1.now number c.digits_before.ensures s in
    let found = (c.parse_number.ensures number).1 (subst (λ (d : List ℕ). SpellsNumber d number) (sym p.0) s) in
    let none = c.in_err-parse_number.was in cc)
    (λ other.
    let p = other_parts c.args.text.now c.digits_before.result.0.now c.digits_before.result.1.now c.digits_before.ensures other in
    let found = (c.parse_number.ensures other.number).1 (subst (λ (d : List ℕ). SpellsNumber d other.number) p.0 other.spells) in
    let none = c.in_err-parse_number.was in cc))

pub returns-then-is_empty : goal.returns-then-is_empty
returns-then-is_empty c =
    let none : length c.digits_before.result.1.now ≡ 0 = search rules in
    let whole : c.digits_before.result.0.now ≡ c.args.text.now = sym (no_more c.args.text.now c.digits_before.result.0.now c.digits_before.result.1.now none c.digits_before.ensures.word_is) in
    missing c.in_ok-parse_number.field-0 (subst (λ (d : List ℕ). SpellsNumber d c.in_ok-parse_number.field-0) whole ((c.parse_number.ensures c.in_ok-parse_number.field-0).0 c.in_ok-parse_number.was))

pub returns-then-not-is_other_unit : goal.returns-then-not-is_other_unit
returns-then-not-is_other_unit c =
    let not_other : ¬ IsOtherUnit c.digits_before.result.1.now = λ is. let bad = c.is_other_unit.ensures.1 is in search rules in
    neither
    (λ number s.
    let p = number_parts c.args.text.now c.digits_before.result.0.now c.digits_before.result.1.now number c.digits_before.ensures s in
    let some : 0 < length c.digits_before.result.1.now = search rules in
    absurd (omega (arith, some, rw p.1 at some)))
    (λ other.
    let p = other_parts c.args.text.now c.digits_before.result.0.now c.digits_before.result.1.now c.digits_before.ensures other in
    not_other (subst (λ (u : List ℕ). IsOtherUnit u) p.1 other.is_other))

pub returns : goal.returns
returns c =
    let other : IsTrue c.is_other_unit.result = search rules in
    unknown (record {
      digits = c.digits_before.result.0.now;
      unit = c.digits_before.result.1.now;
      number = c.in_ok-parse_number.field-0;
      text_is = c.digits_before.ensures.word_is;
      spells = (c.parse_number.ensures c.in_ok-parse_number.field-0).0 c.in_ok-parse_number.was;
      is_other = c.is_other_unit.ensures.0 other;
    })
