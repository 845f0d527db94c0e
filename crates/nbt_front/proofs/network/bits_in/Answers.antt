use Rattle.std.proofs.Common.{◌≡◌, Some, arith}
use Rattle.nbt_front.proofs.Rulings.{at_none}
use Rattle.nbt_front.proofs.network.bits_in.Goals as goal

pub returns-in_err-bits-clause-none : goal.returns-in_err-bits-clause-none
returns-in_err-bits-clause-none c = at_none c.from_residual.result (λ bits few says. let e = (c.parse_number.ensures bits).1 says in let none = c.in_err-bits.was in absurd cc)

pub returns-then-bits-from-clause-none : goal.returns-then-bits-from-clause-none
returns-then-bits-from-clause-none c = λ bits few says.
    let e : c.parse_number.result ≡ Some bits = (c.parse_number.ensures bits).1 says in
    let was = c.in_ok-bits.was in
    let same : c.in_ok-bits.bits ≡ bits = cc in
    absurd (omega (arith, same, few, c.if-bits-from.true, c.from.ensures))

pub returns-clause-found : goal.returns-clause-found
returns-clause-found c = ((c.parse_number.ensures c.in_ok-bits.bits).0 c.in_ok-bits.was, omega (arith, c.if-bits-from.false, c.from.ensures))
