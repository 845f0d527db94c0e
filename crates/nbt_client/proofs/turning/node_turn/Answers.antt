use Rattle.std.proofs.lemmas.Result.{err_from_is_err_and}
use Rattle.nbt_client.proofs.Turns.{broken_at_ask, broken_at_poll, broken_at_receive, broken_at_reply, turned_empty, turned_heard}
use Rattle.nbt_client.proofs.turning.node_turn.Goals as goal

pub returns-in_err-ask-clause-err : goal.returns-in_err-ask-clause-err
returns-in_err-ask-clause-err g c =
    let p = err_from_is_err_and c.from_residual.result c.from_residual.ensures.1 in
    rw p.1 (broken_at_ask g.P.Port.does g.C.Clock.tells c.args.server c.args.want.now c.args.node.now c.args.port.now c.args.clock.now
    c.now-now.result c.ask.new.port c.now-now.new.self c.ask.new.node c.in_err-ask.ensures.err c.now-now.ensures)

pub returns-in_err-poll_all-clause-err : goal.returns-in_err-poll_all-clause-err
returns-in_err-poll_all-clause-err g c =
    let p = err_from_is_err_and c.from_residual-in_err-poll_all.result c.from_residual-in_err-poll_all.ensures.1 in
    rw p.1 (broken_at_poll g.P.Port.does g.C.Clock.tells c.args.server c.args.want.now c.args.node.now c.args.port.now c.args.clock.now
    c.now-now.result c.ask.new.port c.poll_all.new.port c.now-now.new.self c.ask.new.node c.poll_all.new.node c.in_ok-ask.ensures.ok c.in_err-poll_all.ensures.err c.now-now.ensures)

pub returns-in_err-from-clause-err : goal.returns-in_err-from-clause-err
returns-in_err-from-clause-err g c =
    let p = err_from_is_err_and c.from_residual-in_err-from.result c.from_residual-in_err-from.ensures.1 in
    rw p.1 (broken_at_receive g.P.Port.does g.C.Clock.tells c.args.server c.args.want.now c.args.node.now c.args.port.now c.args.clock.now
    c.now-now.result c.ask.new.port c.poll_all.new.port c.receive.new.self c.now-now.new.self c.ask.new.node c.poll_all.new.node c.in_ok-ask.ensures.ok c.in_ok-poll_all.ensures.ok c.in_err-from.ensures.does c.now-now.ensures)

pub returns-in-Some-clause-ok : goal.returns-in-Some-clause-ok
returns-in-Some-clause-ok g c =
    turned_heard g.P.Port.does g.C.Clock.tells c.args.server c.args.want.now c.args.node.now c.args.port.now c.args.clock.now
    c.now-now.result c.now-now-2.result c.ask.new.port c.poll_all.new.port c.receive.new.self c.hear.new.port c.now-now.new.self c.now-now-2.new.self c.ask.new.node c.poll_all.new.node c.hear.new.node
    c.in_ok-from.from c.in-Some.from c.receive.new.octets.items c.as_slice.result.now c.hear.result
    c.in_ok-ask.ensures.ok c.in_ok-poll_all.ensures.ok c.now-now.ensures c.now-now-2.ensures c.in-Some.is c.as_slice.ensures.value c.in_ok-from.ensures.does c.hear.ensures.ok

pub returns-in-Some-clause-err : goal.returns-in-Some-clause-err
returns-in-Some-clause-err g c =
    broken_at_reply g.P.Port.does g.C.Clock.tells c.args.server c.args.want.now c.args.node.now c.args.port.now c.args.clock.now
    c.now-now.result c.now-now-2.result c.ask.new.port c.poll_all.new.port c.receive.new.self c.hear.new.port c.now-now.new.self c.now-now-2.new.self c.ask.new.node c.poll_all.new.node c.hear.new.node
    c.in_ok-from.from c.in-Some.from c.receive.new.octets.items c.as_slice.result.now c.hear.result
    c.in_ok-ask.ensures.ok c.in_ok-poll_all.ensures.ok c.now-now.ensures c.now-now-2.ensures c.in-Some.is c.as_slice.ensures.value c.in_ok-from.ensures.does c.hear.ensures.err

pub returns-in-None-clause-ok : goal.returns-in-None-clause-ok
returns-in-None-clause-ok g c =
    turned_empty g.P.Port.does g.C.Clock.tells c.args.server c.args.want.now c.args.node.now c.args.port.now c.args.clock.now
    c.now-now.result c.now-now-2.result c.ask.new.port c.poll_all.new.port c.receive.new.self c.now-now.new.self c.now-now-2.new.self c.ask.new.node c.poll_all.new.node
    c.in_ok-from.from c.receive.new.octets.items c.in_ok-ask.ensures.ok c.in_ok-poll_all.ensures.ok c.now-now.ensures c.now-now-2.ensures c.in-None.is c.in_ok-from.ensures.does
