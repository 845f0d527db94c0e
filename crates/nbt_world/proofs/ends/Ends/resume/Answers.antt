use Rattle.std.proofs.Common.{sym}
use Rattle.nbt_world.proofs.Places.{server_resumed}
use Rattle.nbt_world.proofs.ends.Ends.resume.Goals as goal

pub returns : goal.returns
returns c = rw (c.take.ensures.value, c.take.ensures.after) (server_resumed c.args.self.now (sym c.if-is_some.ensures) c.if-is_none.ensures)
