use Rattle.std.proofs.Common.{suc}
use Rattle.nbt_world.proofs.Places.{is_of_end}
use Rattle.nbt_world.proofs.ends.Ends.has_ip.Goals as goal

pub returns-else-self-ip : goal.returns-else-self-ip
returns-else-self-ip c =
    let found = rw c.as_slice.ensures.value at c.any_has_ip.ensures in
    (λ t. let f = found.0 t in (suc f.0, f.1, f.2, f.3), λ is. found.1 (is_of_end c.args.self.now c.args.ip c.if-self-ip.false is))
