use Rattle.std.proofs.Common.{◌∙◌, sym, arith}
use Rattle.nbt_text.proofs.AddressText.{octet_found, split_decimal}
use Rattle.nbt_text.proofs.address.octet_before.Goals as goal

pub returns-in_err-digits-clause-found : goal.returns-in_err-digits-clause-found
returns-in_err-digits-clause-found c = λ n rest h e.
    let cut = split_decimal c.args.mark n c.args.text.now rest c.split_once.result c.split_once.ensures.cases c.requires (omega arith) e in
    absurd (rw c.in_err-digits.was at cut)

pub returns-in_err-bare_number-clause-found : goal.returns-in_err-bare_number-clause-found
returns-in_err-bare_number-clause-found c = λ n rest h e.
    let cut = rw c.in_ok-digits.was at (split_decimal c.args.mark n c.args.text.now rest c.split_once.result c.split_once.ensures.cases c.requires (omega arith) e) in
    let bad = c.in_err-bare_number.ensures.found n (omega arith) cut.0 in absurd cc

pub returns-in_err-octet-clause-found : goal.returns-in_err-octet-clause-found
returns-in_err-octet-clause-found c = λ n rest h e.
    let cut = rw c.in_ok-digits.was at (split_decimal c.args.mark n c.args.text.now rest c.split_once.result c.split_once.ensures.cases c.requires (omega arith) e) in
    let same = c.in_ok-bare_number.ensures.found n (omega arith) cut.0 in
    let octet = octet_found _ c.in_ok-bare_number.field-0 n c.try_from.result c.try_from.ensures h same in
    let bad = sym c.in_err-octet.was ∙ c.ok.ensures.value ∙ octet in absurd cc

pub returns-clause-found : goal.returns-clause-found
returns-clause-found c = λ n rest h e.
    let cut = rw c.in_ok-digits.was at (split_decimal c.args.mark n c.args.text.now rest c.split_once.result c.split_once.ensures.cases c.requires (omega arith) e) in
    let same = c.in_ok-bare_number.ensures.found n (omega arith) cut.0 in
    let octet = octet_found _ c.in_ok-bare_number.field-0 n c.try_from.result c.try_from.ensures h same in
    let some = sym c.in_ok-octet.was ∙ c.ok.ensures.value ∙ octet in (cc, cut.1)
