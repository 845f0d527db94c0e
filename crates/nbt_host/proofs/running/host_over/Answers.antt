use Rattle.std.proofs.Common.{ap, inr, ◌∙◌}
use Rattle.std.proofs.lemmas.Result.{IfOk-weaker, IfErr-at_err, IfErr-weaker}
use Rattle.nbt_port.specs.declared.fault.Fault.TheVariants.{Device}
use Rattle.nbt_host.specs.declared.watching.Look.{Look}
use Rattle.nbt_host.specs.Host.{Running}
use Rattle.nbt_host.specs.Running.{HostsOver, HostOverEnds, RunsHost, RunFails}
use Rattle.nbt_port.specs.Until.{until_of}
use Rattle.nbt_host.proofs.Beginning.{begins}
use Rattle.nbt_host.proofs.running.host_over.Goals as goal

pub returns-clause-ok : goal.returns-clause-ok
returns-clause-ok g c =
    let a = c.args in
    let does = g.P.Port.does in
    let tells = g.K.Clock.tells in
    let looks = g.K.Watch.looks in
    let ran = c.run-ran in
    let text = g.W.Write.contents ran.new.writer in
    let begun : Running g.row.P.Denot g.row.K.Denot = record { port = a.port.now; host = c.in_ok-host.host; text = g.W.Write.contents c.tell_begin.new.writer } in
    let until = c.until_of-until.ensures ∙ ap (λ (l : Look). until_of l.at a.arguments.now.time) c.last.ensures in
    IfOk-weaker ran.result (λ all. RunsHost does tells looks a.arguments.now c.until_of-until.result all begun (record { port = ran.new.port; host = ran.new.self; text = text }))
    (λ all. HostsOver does tells looks a.at a.arguments.now all a.port.now a.watch (g.W.Write.contents a.writer.now) ran.new.port text)
    (λ all run. begins looks a.at a.arguments.now (λ u old new. RunsHost does tells looks a.arguments.now u all old new) a.port.now ran.new.port a.watch
    (g.W.Write.contents a.writer.now) begun.text text begun.host ran.new.self c.until_of-until.result c.in_ok-host.ensures c.in_ok-tell_begin.ensures.ok until run)
    ran.ensures.ok

pub returns-clause-device : goal.returns-clause-device
returns-clause-device g c =
    let a = c.args in
    let does = g.P.Port.does in
    let tells = g.K.Clock.tells in
    let looks = g.K.Watch.looks in
    let ran = c.run-ran in
    let text = g.W.Write.contents ran.new.writer in
    let begun : Running g.row.P.Denot g.row.K.Denot = record { port = a.port.now; host = c.in_ok-host.host; text = g.W.Write.contents c.tell_begin.new.writer } in
    let until = c.until_of-until.ensures ∙ ap (λ (l : Look). until_of l.at a.arguments.now.time) c.last.ensures in
    λ device. begins looks a.at a.arguments.now (λ u old new. RunFails does tells looks a.arguments.now u Device old new) a.port.now ran.new.port a.watch
    (g.W.Write.contents a.writer.now) begun.text text begun.host ran.new.self c.until_of-until.result c.in_ok-host.ensures c.in_ok-tell_begin.ensures.ok until
    (IfErr-at_err (λ fault. RunFails does tells looks a.arguments.now c.until_of-until.result fault begun (record { port = ran.new.port; host = ran.new.self; text = text })) device ran.ensures.err)

pub returns-clause-err : goal.returns-clause-err
returns-clause-err g c =
    let a = c.args in
    let does = g.P.Port.does in
    let tells = g.K.Clock.tells in
    let looks = g.K.Watch.looks in
    let ran = c.run-ran in
    let text = g.W.Write.contents ran.new.writer in
    let begun : Running g.row.P.Denot g.row.K.Denot = record { port = a.port.now; host = c.in_ok-host.host; text = g.W.Write.contents c.tell_begin.new.writer } in
    let until = c.until_of-until.ensures ∙ ap (λ (l : Look). until_of l.at a.arguments.now.time) c.last.ensures in
    IfErr-weaker ran.result (λ fault. RunFails does tells looks a.arguments.now c.until_of-until.result fault begun (record { port = ran.new.port; host = ran.new.self; text = text }))
    (λ fault. HostOverEnds does tells looks a.at a.arguments.now fault a.port.now a.watch (g.W.Write.contents a.writer.now) ran.new.port text)
    (λ fault run. inr (begins looks a.at a.arguments.now (λ u old new. RunFails does tells looks a.arguments.now u fault old new) a.port.now ran.new.port a.watch
    (g.W.Write.contents a.writer.now) begun.text text begun.host ran.new.self c.until_of-until.result c.in_ok-host.ensures c.in_ok-tell_begin.ensures.ok until run))
    ran.ensures.err
