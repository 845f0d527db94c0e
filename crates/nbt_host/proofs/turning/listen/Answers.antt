use Rattle.std.proofs.Common.{refl, sym}
use Rattle.std.proofs.lemmas.Result.{err_from_is_err_and}
use Rattle.nbt_host.specs.Hosting.{Terms}
use Rattle.nbt_host.specs.Releasing.{Releasing}
use Rattle.nbt_host.specs.Inner.Parts.{loses_receive}
use Rattle.nbt_host.proofs.Listening.{is_woken, slept_over, heard_on, lost_on}
use Rattle.nbt_host.proofs.turning.listen.Goals as goal

pub returns-in_err-from-clause-err : goal.returns-in_err-from-clause-err
returns-in_err-from-clause-err g c =
    let p = err_from_is_err_and c.from_residual.result c.from_residual.ensures.1 in
    rw p.1 (loses_receive c.in_err-from.ensures.does refl)

pub returns-then-slept-clause-ok : goal.returns-then-slept-clause-ok
returns-then-slept-clause-ok g c =
    let a = c.args in
    let t : Terms = record { slots = g.row.N; server = a.server; config = a.config } in
    let old : Releasing g.row.P.Denot g.row.K.Denot = record { port = a.port.now; watch = a.watch.now; last = a.last.now; host = record { goals = a.goals.now; node = a.node.now } } in
    let w = c.wake-second in
    slept_over g.P.Port.does g.K.Watch.looks t old c.receive.new.self c.receive.new.self w.new.watch w.result c.with_earlier.result c.in_ok-from.from c.receive.new.octets.items c.receive.new.octets.items w.new.goals w.new.node
    c.in_ok-from.ensures.does w.ensures.looks c.with_earlier.ensures (is_woken t w.result old.host w.new.goals w.new.node w.ensures.goals w.ensures.node) (sym c.if-slept.true)

pub returns-clause-ok : goal.returns-clause-ok
returns-clause-ok g c =
    let a = c.args in
    let t : Terms = record { slots = g.row.N; server = a.server; config = a.config } in
    let old : Releasing g.row.P.Denot g.row.K.Denot = record { port = a.port.now; watch = a.watch.now; last = a.last.now; host = record { goals = a.goals.now; node = a.node.now } } in
    let w = c.wake-second in
    heard_on g.P.Port.does g.K.Watch.looks t old c.receive.new.self c.hear.new.port w.new.watch w.result c.with_earlier.result c.in_ok-from.from c.receive.new.octets.items c.as_slice.result.now w.new.goals w.new.node
    c.in_ok-from.ensures.does w.ensures.looks c.with_earlier.ensures (is_woken t w.result old.host w.new.goals w.new.node w.ensures.goals w.ensures.node)
    c.in_ok-notice.notice c.hear_all.new.goals c.hear.new.node (sym c.if-slept.false) c.as_slice.ensures.value c.in_ok-notice.ensures.ok c.hear_all.ensures

pub returns-in_err-notice-clause-err : goal.returns-in_err-notice-clause-err
returns-in_err-notice-clause-err g c =
    let p = err_from_is_err_and c.from_residual-in_err-notice.result c.from_residual-in_err-notice.ensures.1 in
    let a = c.args in
    let t : Terms = record { slots = g.row.N; server = a.server; config = a.config } in
    let old : Releasing g.row.P.Denot g.row.K.Denot = record { port = a.port.now; watch = a.watch.now; last = a.last.now; host = record { goals = a.goals.now; node = a.node.now } } in
    let w = c.wake-second in
    rw p.1 (lost_on g.P.Port.does g.K.Watch.looks t old c.receive.new.self c.hear.new.port w.new.watch w.result c.with_earlier.result c.in_ok-from.from c.receive.new.octets.items c.as_slice.result.now w.new.goals w.new.node
    c.in_ok-from.ensures.does w.ensures.looks c.with_earlier.ensures (is_woken t w.result old.host w.new.goals w.new.node w.ensures.goals w.ensures.node)
    c.hear.new.node (sym c.if-slept.false) c.as_slice.ensures.value c.in_err-notice.ensures.err)
