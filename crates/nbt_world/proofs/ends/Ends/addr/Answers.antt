use Rattle.std.proofs.Common.{sym, ap}
use Rattle.nbt_world.specs.World.{addr_of}
use Rattle.nbt_world.proofs.Finding.{addr_got, no_addr_got}
use Rattle.nbt_world.proofs.ends.Ends.addr.Goals as goal

pub returns-then-number-eq0 : goal.returns-then-number-eq0
returns-then-number-eq0 c = sym (ap (addr_of c.args.self.now) c.if-number-eq0.true)

pub returns-in-Some : goal.returns-in-Some
returns-in-Some c =
    let found = c.in-Some.ensures.lookup in
    addr_got c.args.self.now c.args.number c.as_slice.result.now c.in-Some.end.now c.if-number-eq0.false c.as_slice.ensures.value found.3.0 found.1

pub returns-in-None : goal.returns-in-None
returns-in-None c = no_addr_got c.args.self.now c.args.number c.as_slice.result.now c.if-number-eq0.false c.as_slice.ensures.value c.in-None.ensures.lookup.3
