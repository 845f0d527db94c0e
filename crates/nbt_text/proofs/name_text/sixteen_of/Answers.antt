use Rattle.std.proofs.Common.{◌≡◌, ◌++◌, ◌-◌, length, Some, sym, ◌∙◌, ap, rules}
use Rattle.std.proofs.lemmas.List.{drop-replicate}
use Rattle.std.specs.Prelude.{replicate}
use Rattle.nbt_text.specs.NameText.{Sixteen, filled_up, in_32_digits, prefix, space}
use Rattle.nbt_text.proofs.NameText.{decoded_from, decoded_into, digits_spell_sixteen, not_refused, sixteen_is_one}
use Rattle.nbt_text.proofs.name_text.sixteen_of.Goals as goal

pub returns-in_err-ok-in-Some-clause-found : goal.returns-in_err-ok-in-Some-clause-found
returns-in_err-ok-in-Some-clause-found c = λ octets s.
    let room : length c.as_mut_slice.result.now ≡ 16 = ap length c.as_mut_slice.ensures.value in
    let begins : c.args.component.now ≡ prefix ++ c.in-Some.digits.now = c.in-Some.ensures.digits in
    let spelled = digits_spell_sixteen c.args.component.now octets c.in-Some.digits.now s begins in
    let ok = decoded_into c.in-Some.digits.now (length c.as_mut_slice.result.now) c.decode_to_slice.result c.decode_to_slice.new.out octets c.decode_to_slice.ensures.value spelled.0 (spelled.1 ∙ sym room) in
    absurd (not_refused c.decode_to_slice.result c.ok.result c.ok.ensures.value ok.0 c.in_err-ok-in-Some.was)

pub returns-in_ok-ok-in-Some-clause-read : goal.returns-in_ok-ok-in-Some-clause-read
returns-in_ok-ok-in-Some-clause-read c =
    let room : length c.as_mut_slice.result.now ≡ 16 = ap length c.as_mut_slice.ensures.value in
    let begins : c.args.component.now ≡ prefix ++ c.in-Some.digits.now = c.in-Some.ensures.digits in
    let decoded = decoded_from c.in-Some.digits.now (length c.as_mut_slice.result.now) c.decode_to_slice.result c.decode_to_slice.new.out c.decode_to_slice.ensures.value (search rules) in
    rw begins (in_32_digits c.in-Some.digits.now c.decode_to_slice.new.out decoded.0 (decoded.1 ∙ room))

pub returns-else-not-stands_as_it_is-clause-read : goal.returns-else-not-stands_as_it_is-clause-read
returns-else-not-stands_as_it_is-clause-read c =
    let stands = c.stands_as_it_is.ensures.0 (search rules) in
    rw (c.copy_from_slice.ensures.after, drop-replicate (length c.args.component.now) 16 space) (filled_up c.args.component.now stands c.if-component-gt16.false)

pub returns-else-not-stands_as_it_is-clause-found : goal.returns-else-not-stands_as_it_is-clause-found
returns-else-not-stands_as_it_is-clause-found c = λ octets s.
    let stands = c.stands_as_it_is.ensures.0 (search rules) in
    let read : Sixteen c.args.component.now (c.args.component.now ++ replicate (16 - length c.args.component.now) space) = filled_up c.args.component.now stands c.if-component-gt16.false in
    rw (c.copy_from_slice.ensures.after, drop-replicate (length c.args.component.now) 16 space) (ap Some (sixteen_is_one c.args.component.now _ octets read s))
