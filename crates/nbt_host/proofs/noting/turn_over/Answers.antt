use Rattle.std.proofs.lemmas.Result.{on_ok_weaker, on_err_weaker}
use Rattle.nbt_host.specs.Hosting.{HostValue, Terms, HostTurn, HostBreaks}
use Rattle.nbt_host.proofs.NotedCalls.{noted_so, same_name}
use Rattle.nbt_host.proofs.noting.turn_over.Goals as goal

pub returns-clause-name : goal.returns-clause-name
returns-clause-name g c =
    let a = c.args in
    let h = c.host_turn in
    let t : Terms = record { slots = g.row.N; server = a.server; config = a.config } in
    let old : HostValue = record { goals = a.goals.now; node = a.node.now } in
    let new : HostValue = record { goals = h.new.goals; node = h.new.node } in
    same_name g.P.Port.does g.K.Watch.looks t a.noting.now h.new.port (λ n. record { port = n.beneath.now; name = n.beneath.ghost_name; server = n.server; noted = n.noted }) a.watch.now h.new.watch a.last.now h.new.last old new c.requires.none c.requires.server h.result HostTurn HostBreaks h.ensures.ok h.ensures.err

pub returns-clause-ok : goal.returns-clause-ok
returns-clause-ok g c =
    let a = c.args in
    let h = c.host_turn in
    let t : Terms = record { slots = g.row.N; server = a.server; config = a.config } in
    let old : HostValue = record { goals = a.goals.now; node = a.node.now } in
    let new : HostValue = record { goals = h.new.goals; node = h.new.node } in
    on_ok_weaker h.result (noted_so g.P.Port.does g.K.Watch.looks t a.noting.now h.new.port (λ n. record { port = n.beneath.now; name = n.beneath.ghost_name; server = n.server; noted = n.noted }) a.watch.now h.new.watch a.last.now h.new.last old new c.requires.none c.requires.server HostTurn) h.ensures.ok

pub returns-clause-err : goal.returns-clause-err
returns-clause-err g c =
    let a = c.args in
    let h = c.host_turn in
    let t : Terms = record { slots = g.row.N; server = a.server; config = a.config } in
    let old : HostValue = record { goals = a.goals.now; node = a.node.now } in
    let new : HostValue = record { goals = h.new.goals; node = h.new.node } in
    on_err_weaker h.result (noted_so g.P.Port.does g.K.Watch.looks t a.noting.now h.new.port (λ n. record { port = n.beneath.now; name = n.beneath.ghost_name; server = n.server; noted = n.noted }) a.watch.now h.new.watch a.last.now h.new.last old new c.requires.none c.requires.server HostBreaks) h.ensures.err
