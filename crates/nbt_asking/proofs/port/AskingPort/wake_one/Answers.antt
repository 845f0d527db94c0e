use Rattle.std.proofs.Common.{[], ap, refl}
use Rattle.nbt_waits.specs.Doing.{Done, done_by}
use Rattle.nbt_asking.specs.Attending.{datagrams}
use Rattle.nbt_asking.proofs.port.AskingPort.wake_one.Goals as goal

pub returns : goal.returns
returns g c =
    let woken = c.in-Some.ensures.woken in
    let none = ap (λ (d : Done). datagrams d.sends) woken.done_is in
    rw (c.note.ensures, ← c.self.view_is) (record { done = done_by c.in-Some.settled [] c.wake.new.self; did = woken; port_did = rw none refl; new_is = refl })
