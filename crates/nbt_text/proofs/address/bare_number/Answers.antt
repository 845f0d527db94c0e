use Rattle.std.proofs.Common.{ap, arith, refl}
use Rattle.std.proofs.lemmas.Fmt.{parse-decimal}
use Rattle.std.specs.Result.{result_ok}
use Rattle.nbt_text.proofs.AddressText.{CanBeginDecimal, CanBeginDecimal-decimal, decimal_from_parse}
use Rattle.nbt_text.proofs.address.bare_number.Goals as goal

pub returns-then-can_begin_decimal-clause-read : goal.returns-then-can_begin_decimal-clause-read
returns-then-can_begin_decimal-clause-read c =
    let begins : CanBeginDecimal c.args.text.now = rw c.as_bytes.ensures.value at (c.if-can_begin_decimal.ensures.0 refl) in
    rw c.ok.ensures.value (decimal_from_parse _ c.args.text.now c.parse.result c.parse.ensures.value.0 begins)

pub returns-then-can_begin_decimal-clause-found : goal.returns-then-can_begin_decimal-clause-found
returns-then-can_begin_decimal-clause-found c = λ n h e.
    rw c.ok.ensures.value (ap result_ok (parse-decimal 16 n c.args.text.now c.parse.result h (omega arith) e c.parse.ensures.value.0))

pub returns-else-can_begin_decimal-clause-found : goal.returns-else-can_begin_decimal-clause-found
returns-else-can_begin_decimal-clause-found c = λ n h e.
    let begins : CanBeginDecimal c.as_bytes.result.now = rw (c.as_bytes.ensures.value, e) (CanBeginDecimal-decimal n (omega arith)) in
    let bad = c.if-can_begin_decimal.ensures.1 begins in cc
