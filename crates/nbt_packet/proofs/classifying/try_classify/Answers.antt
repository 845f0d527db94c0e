use Rattle.std.proofs.Common.{◌≡◌, ◌≢◌, ℕ, sym, ◌∙◌, subst, arith}
use Rattle.nbt_packet.proofs.Common.{true≢false, IfErr-weaker, IsRequest, IsResponse, opcode_of, packet_of, Shape, asking, claiming, confirming, finding, denying, waiting, HasShape, IsOfEntry, no_shape}
use Rattle.nbt_packet.proofs.Reasons.{is_reason}
use Rattle.nbt_packet.proofs.classifying.try_classify.Goals as goal
use Rattle.nbt_packet.proofs.classifying.try_classify.Goals.{else-opcode-eq-OPCODE_WACK-via-then-opcode-eq-OPCODE_WACK+else-not-is_request, else-opcode-eq-OPCODE_WACK-via-else-opcode-eq-OPCODE_WACK}

nothing : (flags : ℕ) → ¬ IsOfEntry (opcode_of flags) → opcode_of flags ≢ 0 → (opcode_of flags ≡ 7 → IsResponse flags → ⊥) → (shape : Shape) → ¬ HasShape flags shape
nothing flags entry query wait asking is = query is.1
nothing flags entry query wait claiming is = entry is.1
nothing flags entry query wait confirming is = entry is.1
nothing flags entry query wait finding is = query is.1
nothing flags entry query wait denying is = query is.1
nothing flags entry query wait waiting is = wait is.1 is.0

pub returns-clause-reason : goal.returns-clause-reason
returns-clause-reason c =
    let flags = c.args.packet.now.flags in
    let opcode = c.opcode-opcode.ensures in
    let entry : ¬ IsOfEntry (opcode_of flags) = λ e. true≢false (sym (c.is_of_entry.ensures.1 (subst IsOfEntry (sym opcode) e)) ∙ c.if-is_of_entry.false) in
    let query : opcode_of flags ≢ 0 = λ e. c.if-opcode-eq-OPCODE_QUERY.false (opcode ∙ e) in
    no_shape (nothing flags entry query (λ seven response. elim c.else-opcode-eq-OPCODE_WACK.branch [
      | else-opcode-eq-OPCODE_WACK-via-then-opcode-eq-OPCODE_WACK+else-not-is_request w ↦
          let request : IsRequest flags = w.is_request-then-opcode-eq-OPCODE_WACK.ensures.0 w.if-not-is_request.false in
          omega (arith, request, response)
      | else-opcode-eq-OPCODE_WACK-via-else-opcode-eq-OPCODE_WACK w ↦ w.if-opcode-eq-OPCODE_WACK.false (opcode ∙ seven)
    ]))

pub returns-then-is_request-clause-reason : goal.returns-then-is_request-clause-reason
returns-then-is_request-clause-reason c = IfErr-weaker c.claim_in.result _ _ (is_reason claiming (packet_of c.args.packet.now)) c.claim_in.ensures.reason

pub returns-else-is_request-clause-reason : goal.returns-else-is_request-clause-reason
returns-else-is_request-clause-reason c = IfErr-weaker c.confirmation_in.result _ _ (is_reason confirming (packet_of c.args.packet.now)) c.confirmation_in.ensures.reason

pub returns-then-not-is_request-clause-reason : goal.returns-then-not-is_request-clause-reason
returns-then-not-is_request-clause-reason c = IfErr-weaker c.wait_in.result _ _ (is_reason waiting (packet_of c.args.packet.now)) c.wait_in.ensures.reason
