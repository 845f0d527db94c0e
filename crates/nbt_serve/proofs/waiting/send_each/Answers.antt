use Rattle.std.proofs.Common.{ℕ, List, [], ◌∷◌, ◌++◌, map, refl, subst, ◌∙◌}
use Rattle.std.proofs.lemmas.Result.{err_from_is_err_and}
use Rattle.nbt_port.specs.PortCalls.{sent, send_failed}
use Rattle.nbt_serve.specs.Waiting.{value_of}
use Rattle.nbt_serve.proofs.Leaving.{sent_more, sent_failed, one_further, one_lost}
use Rattle.nbt_serve.proofs.waiting.send_each.Goals as goal

pub sends-init : goal.sends-init
sends-init g c = record { posted = ([], refl, refl); capacity = refl }

pub sends-preserved : goal.sends-preserved
sends-preserved g c =
    let reply = c.in-Some.reply in
    let before = c.sends.invariant.posted.0 in
    record {
      posted = (
        before ++ value_of reply ∷ [],
        one_further before reply c.sends.replies.items c.pop_front.new.self.items (map value_of c.args.replies.now.items) c.in-Some.ensures.items c.sends.invariant.posted.1,
        sent_more g.P.Port.does c.args.port.now c.sends.port c.send.new.self before (value_of reply) c.sends.invariant.posted.2
            (subst (λ (xs : List ℕ). g.P.Port.does c.sends.port (sent reply.to xs) c.send.new.self) c.as_slice.ensures.value c.in_ok-send.ensures.does),
      );
      capacity = c.pop_front.ensures.capacity ∙ c.sends.invariant.capacity;
    }

pub returns-in_err-send-clause-err : goal.returns-in_err-send-clause-err
returns-in_err-send-clause-err g c =
    let p = err_from_is_err_and c.from_residual.result c.from_residual.ensures.1 in
    let reply = c.in-Some.reply in
    let before = c.sends.invariant.posted.0 in
    rw p.1 (
      before,
      value_of reply,
      one_lost before reply c.sends.replies.items c.pop_front.new.self.items (map value_of c.args.replies.now.items) c.in-Some.ensures.items c.sends.invariant.posted.1,
      sent_failed g.P.Port.does c.args.port.now c.sends.port c.send.new.self before (value_of reply) c.sends.invariant.posted.2
          (subst (λ (xs : List ℕ). g.P.Port.does c.sends.port (send_failed reply.to xs) c.send.new.self) c.as_slice.ensures.value c.in_err-send.ensures.does),
    )

pub returns-in_err-send-clause-capacity : goal.returns-in_err-send-clause-capacity
returns-in_err-send-clause-capacity g c = c.pop_front.ensures.capacity ∙ c.sends.invariant.capacity
