use Rattle.std.proofs.Common.{◌≡◌, ◌+◌, ℕ, sym, ap, subst}
use Rattle.std.proofs.lemmas.Result.{err_from_is_err_and, IfOk-weaker, on_err_weaker}
use Rattle.nbt_node.specs.Node.{NodeValue}
use Rattle.nbt_client.specs.declared.lookup.Ending.{Ending}
use Rattle.nbt_client.specs.declared.lookup.Ending.TheVariants as e
use Rattle.nbt_client.specs.Lookups.{Waited, Looks, is_refused, is_asked, Broken, at_question, at_turn}
use Rattle.nbt_client.proofs.lookup.look_up.Goals as goal

pub returns-in-Err-clause-ok : goal.returns-in-Err-clause-ok
returns-in-Err-clause-ok g c =
    subst (λ (node : NodeValue). Looks g.P.Port.does g.C.Clock.tells c.args.question.now c.args.patience c.args.most c.args.port.now c.args.clock.now c.args.node.now (e.Refused c.in-Err.fault) c.args.octets.now.items c.args.port.now c.now-now.new.self node)
    (sym c.in-Err.ensures.err) (is_refused c.now-now.result c.in-Err.fault c.args.octets.now.items c.now-now.new.self c.now-now.ensures (sym c.in-Err.ensures.refused))

pub returns-clause-ok : goal.returns-clause-ok
returns-clause-ok g c =
    let did = c.in_ok-send.ensures.does in
    let to = c.to.ensures in
    let end = c.end_of.ensures in
    let octets = c.as_slice.ensures.value in
    let limit : c.get.result + c.args.patience ≡ c.now-now.result + c.args.patience = ap (λ (n : ℕ). n + c.args.patience) c.get.ensures.value in
    IfOk-weaker c.wait.result
    (λ (ending : Ending). Waited g.P.Port.does g.C.Clock.tells (c.get.result + c.args.patience) c.args.most ending c.wait.new.octets.items (record { port = c.send.new.self; clock = c.now-now.new.self; node = c.begin.new.node }) (record { port = c.wait.new.port; clock = c.wait.new.clock; node = c.wait.new.node }))
    (λ (ending : Ending). Looks g.P.Port.does g.C.Clock.tells c.args.question.now c.args.patience c.args.most c.args.port.now c.args.clock.now c.args.node.now ending c.wait.new.octets.items c.wait.new.port c.wait.new.clock c.wait.new.node)
    (λ ending w. is_asked c.now-now.result c.begin.new.out.items c.wait.new.octets.items ending c.send.new.self c.now-now.new.self c.begin.new.node c.wait.new.port c.wait.new.clock c.wait.new.node
    c.now-now.ensures (sym c.in_default.ensures.refused) c.in_default.ensures.ok (rw (to, end, octets) at did)
    (subst (λ (n : ℕ). Waited g.P.Port.does g.C.Clock.tells n c.args.most ending c.wait.new.octets.items (record { port = c.send.new.self; clock = c.now-now.new.self; node = c.begin.new.node }) (record { port = c.wait.new.port; clock = c.wait.new.clock; node = c.wait.new.node })) limit w))
    c.wait.ensures.ok

pub returns-in_err-send-clause-err : goal.returns-in_err-send-clause-err
returns-in_err-send-clause-err g c =
    let p = err_from_is_err_and c.from_residual.result c.from_residual.ensures.1 in
    let did = c.in_err-send.ensures.does in
    let to = c.to.ensures in
    let end = c.end_of.ensures in
    let octets = c.as_slice.ensures.value in
    rw p.1 (at_question c.now-now.result c.begin.new.out.items c.send.new.self c.now-now.new.self c.begin.new.node c.now-now.ensures (sym c.in_default.ensures.refused) c.in_default.ensures.ok (rw (to, end, octets) at did))

pub returns-clause-err : goal.returns-clause-err
returns-clause-err g c =
    let did = c.in_ok-send.ensures.does in
    let to = c.to.ensures in
    let end = c.end_of.ensures in
    let octets = c.as_slice.ensures.value in
    let limit : c.get.result + c.args.patience ≡ c.now-now.result + c.args.patience = ap (λ (n : ℕ). n + c.args.patience) c.get.ensures.value in
    on_err_weaker c.wait.result
    (λ w. at_turn c.now-now.result c.begin.new.out.items c.send.new.self c.now-now.new.self c.begin.new.node c.wait.new.port c.wait.new.clock c.wait.new.node
    c.now-now.ensures (sym c.in_default.ensures.refused) c.in_default.ensures.ok (rw (to, end, octets) at did)
    (subst (λ (n : ℕ). Broken g.P.Port.does g.C.Clock.tells n c.args.most (record { port = c.send.new.self; clock = c.now-now.new.self; node = c.begin.new.node }) (record { port = c.wait.new.port; clock = c.wait.new.clock; node = c.wait.new.node })) limit w))
    c.wait.ensures.err
