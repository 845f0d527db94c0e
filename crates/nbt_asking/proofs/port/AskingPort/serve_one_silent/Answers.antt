use Rattle.std.proofs.Common.{refl}
use Rattle.nbt_waits.specs.Doing.{done_by}
use Rattle.nbt_asking.proofs.port.AskingPort.serve_one_silent.Goals as goal

pub returns : goal.returns
returns g c =
    let left = rw c.as_slice.ensures.value at c.leave.ensures in
    rw (c.note.ensures, ← c.self.view_is) (record { done = done_by c.in-Some.settled c.serve_silence.new.out.items c.serve_silence.new.self; did = c.in-Some.ensures.served; port_did = left; new_is = refl })
