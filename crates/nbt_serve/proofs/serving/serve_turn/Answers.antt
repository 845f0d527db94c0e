use Rattle.std.proofs.Common.{refl, sym, subst, ◌∙◌}
use Rattle.std.proofs.lemmas.Result.{err_from_is_err_and}
use Rattle.nbt_port.specs.PortCalls.{receive_failed, sent, send_failed}
use Rattle.nbt_serve.specs.Serving.{of_receive}
use Rattle.nbt_port.proofs.Chains.{chain_one}
use Rattle.nbt_serve.proofs.ServerTurns.{breaks_one}
use Rattle.nbt_server.specs.Calls.{ServerHandles}
use Rattle.nbt_serve.proofs.OneTurn.{served_empty, served_silent, served_replied, served_unsent, served_lost, lost_to}
use Rattle.nbt_serve.proofs.serving.serve_turn.Goals as goal
use Rattle.nbt_serve.proofs.serving.serve_turn.Goals.{then-has_reply+in_ok-send-in-Ok, else-has_reply}

pub returns-in_err-from-clause-err : goal.returns-in_err-from-clause-err
returns-in_err-from-clause-err g c =
    let does = g.P.Port.does in
    let p = err_from_is_err_and c.from_residual.result c.from_residual.ensures.1 in
    rw p.1 (breaks_one does g.C.Clock.tells of_receive c.args.port.now c.receive.new.self c.args.clock.now c.args.clock.now c.args.server.now c.args.server.now refl
    (chain_one does c.args.port.now receive_failed c.receive.new.self c.in_err-from.ensures.does) refl)

pub returns-in_default-clause-ok : goal.returns-in_default-clause-ok
returns-in_default-clause-ok g c =
    served_empty g.P.Port.does g.C.Clock.tells c.args.port.now c.receive.new.self c.args.clock.now c.args.server.now
    c.in_ok-from.field-0 c.receive.new.octets.items c.in_default.is c.in_ok-from.ensures.does

pub returns-in-Err-clause-ok : goal.returns-in-Err-clause-ok
returns-in-Err-clause-ok g c =
    served_lost g.P.Port.does g.C.Clock.tells c.args.port.now c.receive.new.self c.args.clock.now c.now-now.new.self c.args.server.now c.handle.new.self
    c.in_ok-from.field-0 c.in-Some.from c.receive.new.octets.items c.now-now.result
    c.in-Some.is c.in_ok-from.ensures.does c.now-now.ensures
    (lost_to c.args.server.now c.handle.new.self c.now-now.result c.in-Some.from c.as_slice.result.now c.receive.new.octets.items c.in-Err.field-0 c.as_slice.ensures.value
    c.in-Err.ensures.clock_back c.in-Err.ensures.unchanged c.in-Err.ensures.memory)

pub returns-in_err-send-in-Ok-clause-err : goal.returns-in_err-send-in-Ok-clause-err
returns-in_err-send-in-Ok-clause-err g c =
    let p = err_from_is_err_and c.from_residual-in_err-send-in-Ok.result c.from_residual-in_err-send-in-Ok.ensures.1 in
    rw p.1 (served_unsent g.P.Port.does g.C.Clock.tells c.args.port.now c.receive.new.self c.args.clock.now c.now-now.new.self c.args.server.now c.handle.new.self
    c.in_ok-from.field-0 c.in-Some.from c.receive.new.octets.items c.now-now.result
    c.in-Some.is c.in_ok-from.ensures.does c.now-now.ensures c.handle.new.out.items c.in-Ok.outcome c.send.new.self
    (subst (λ octets. ServerHandles c.args.server.now c.now-now.result c.in-Some.from.peer.ip octets c.in-Ok.outcome c.handle.new.out.items c.handle.new.self) c.as_slice.ensures.value c.in-Ok.ensures.handled)
    (sym c.has_reply.ensures ∙ c.if-has_reply.true)
    (subst (λ out. g.P.Port.does c.receive.new.self (send_failed c.in-Some.from out) c.send.new.self) c.as_slice-then-has_reply.ensures.value c.in_err-send-in-Ok.ensures.does))

pub returns-after-has_reply-clause-ok : goal.returns-after-has_reply-clause-ok
returns-after-has_reply-clause-ok g c =
    let handled = subst (λ octets. ServerHandles c.args.server.now c.now-now.result c.in-Some.from.peer.ip octets c.in-Ok.outcome c.handle.new.out.items c.handle.new.self) c.as_slice.ensures.value c.in-Ok.ensures.handled in
    elim c.if-has_reply.branch [
      | then-has_reply+in_ok-send-in-Ok w ↦
          rw (c.of.ensures, c.as_slice-in-Ok.ensures.value, w.port-is, w.counts-is) (served_replied g.P.Port.does g.C.Clock.tells c.args.port.now c.receive.new.self c.args.clock.now c.now-now.new.self c.args.server.now c.handle.new.self
          c.in_ok-from.field-0 c.in-Some.from c.receive.new.octets.items c.now-now.result
          c.in-Some.is c.in_ok-from.ensures.does c.now-now.ensures c.handle.new.out.items c.in-Ok.outcome w.send.new.self handled (sym c.has_reply.ensures ∙ w.if-has_reply.true)
          (subst (λ out. g.P.Port.does c.receive.new.self (sent c.in-Some.from out) w.send.new.self) w.as_slice-then-has_reply.ensures.value w.in_ok-send-in-Ok.ensures.does))
      | else-has_reply w ↦
          rw (c.of.ensures, c.as_slice-in-Ok.ensures.value, w.port-is, w.counts-is) (served_silent g.P.Port.does g.C.Clock.tells c.args.port.now c.receive.new.self c.args.clock.now c.now-now.new.self c.args.server.now c.handle.new.self
          c.in_ok-from.field-0 c.in-Some.from c.receive.new.octets.items c.now-now.result
          c.in-Some.is c.in_ok-from.ensures.does c.now-now.ensures c.handle.new.out.items c.in-Ok.outcome handled (sym c.has_reply.ensures ∙ w.if-has_reply.false))
    ]
