use Rattle.std.proofs.Common.{length, ap, subst, arith}
use Rattle.nbt_name.proofs.Common.{NameValue, IsName}
use Rattle.nbt_name.proofs.Fits.{length-wire}
use Rattle.nbt_name.proofs.lent.LentName.wire_len.Goals as goal

pub returns-clause-value : goal.returns-clause-value
returns-clause-value c =
    omega (arith, ap length c.copy.ensures, ap (λ (n : NameValue). length n.scope) c.self.view_is, length-wire c.args.self.now (subst IsName c.self.view_is c.self.invariant), c.self.invariant.fits)
