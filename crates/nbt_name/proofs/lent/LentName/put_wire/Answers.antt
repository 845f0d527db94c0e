use Rattle.std.proofs.Common.{subst, arith}
use Rattle.nbt_name.proofs.Common.{IsName}
use Rattle.nbt_name.proofs.Fits.{length-wire}
use Rattle.nbt_name.proofs.lent.LentName.put_wire.Goals as goal

pub returns-clause-fits : goal.returns-clause-fits
returns-clause-fits g c =
    let is : IsName c.args.self.now = subst IsName c.self.view_is c.self.invariant in
    omega (arith, length-wire c.args.self.now is, is.fits)
