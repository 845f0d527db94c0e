use Rattle.std.proofs.Common.{◌≡◌, ◌++◌, ℕ, List, length, take, drop, ◌/◌, ◌∙◌, arith, rules}
use Rattle.std.specs.Prelude.{replicate}
use Rattle.std.proofs.lemmas.List.{length-take}
use Rattle.hex.proofs.HexLemmas.{decode_of-ok}
use Rattle.nbt_text.specs.NameText.{Component, as_it_is, in_digits, prefix}
use Rattle.nbt_text.proofs.NameText.{OnSome-map, decoded_from, digits_spell, label_pushed}
use Rattle.nbt_text.proofs.name_text.push_label.Goals as goal

pub returns-then-count-gt-LABEL_MOST-clause-refused : goal.returns-then-count-gt-LABEL_MOST-clause-refused
returns-then-count-gt-LABEL_MOST-clause-refused c = λ label spells low high.
    let begins : c.args.component.now ≡ prefix ++ c.in-Some.digits.now = c.in-Some.ensures.digits in
    let decoded = decode_of-ok c.in-Some.digits.now label (digits_spell c.args.component.now label c.in-Some.digits.now spells begins) in
    omega (arith, decoded.2)

pub returns-in_ok-ok-in-Some-clause-pushed : goal.returns-in_ok-ok-in-Some-clause-pushed
returns-in_ok-ok-in-Some-clause-pushed c =
    let begins : c.args.component.now ≡ prefix ++ c.in-Some.digits.now = c.in-Some.ensures.digits in
    let zeros : List ℕ = replicate 63 0 in
    let count : ℕ = length c.in-Some.digits.now / 2 in
    let room : length (take count zeros) ≡ count = omega (arith, length-take count zeros, c.if-count-gt-LABEL_MOST.false) in
    let decoded = decoded_from c.in-Some.digits.now (length (take count zeros)) c.decode_to_slice.result c.decode_to_slice.new.out c.decode_to_slice.ensures.value (search rules) in
    let spells : Component c.args.component.now c.decode_to_slice.new.out = rw begins (in_digits c.in-Some.digits.now c.decode_to_slice.new.out decoded.0) in
    OnSome-map c.push_counted.result c.push_counted.ensures.pushed
    (λ p. label_pushed count c.decode_to_slice.new.out (drop count zeros) c.args.component.now c.args.scope.now.items c.push_counted.new.scope.items (decoded.1 ∙ room) spells p)

pub returns-in-None-clause-pushed : goal.returns-in-None-clause-pushed
returns-in-None-clause-pushed c =
    let stands = c.stands_as_it_is.ensures.0 (search rules) in
    OnSome-map c.push_counted-in-None.result c.push_counted-in-None.ensures.pushed (λ p. (c.args.component.now, as_it_is c.args.component.now stands, p.0, p.1, p.2))
