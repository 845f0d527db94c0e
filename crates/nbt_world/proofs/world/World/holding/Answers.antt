use Rattle.std.proofs.Common.{arith}
use Rattle.nbt_world.proofs.Places.{Reads}
use Rattle.nbt_world.proofs.Finding.{read_holding}
use Rattle.nbt_world.proofs.world.World.holding.Goals as goal

pub returns : goal.returns
returns c =
    let reads : Reads c.self.inside.ends c.args.number c.as_slice.result.now c.index-as_slice-number.result =
    record { lent = c.as_slice.ensures.value; is_node = c.if-number-eq0.false; within = omega arith; read = c.index-as_slice-number.is } in
    rw (← c.self.view_is) (read_holding c.self.inside.clocks c.args.name.now c.reading.result c.holding.result reads c.reading.ensures c.holding.ensures)
