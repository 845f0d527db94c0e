use Rattle.std.proofs.Common.{◌+◌, ◌-◌, ◌<◌, ℕ, Option, Some, length, ap, ◌∙◌, arith}
use Rattle.nbt_confirm.specs.Waiting.{WaitsValue, gap, next_to_ask, queries, waits_most}
use Rattle.nbt_confirm.specs.declared.waits.Pending.{Pending}
use Rattle.nbt_confirm.proofs.Hearing.{begun_by, next_is, none_begun}
use Rattle.nbt_confirm.proofs.waits.next_pending.Goals as goal

pub returns-in_err-inquiry-clause-begun : goal.returns-in_err-inquiry-clause-begun
returns-in_err-inquiry-clause-begun c =
    let waits : WaitsValue = record { requests = c.args.requests.now; pending = c.args.pending.now } in
    let few : length c.args.pending.now < waits_most = omega arith in
    next_is c.args.now c.args.id waits c.from_residual.result few (c.from_residual.ensures ∙ none_begun (next_to_ask waits) c.args.now c.args.id c.in_err-inquiry.ensures)

pub returns-clause-begun : goal.returns-clause-begun
returns-clause-begun c =
    let waits : WaitsValue = record { requests = c.args.requests.now; pending = c.args.pending.now } in
    let few : length c.args.pending.now < waits_most = omega arith in
    let at : ℕ → Option Pending = λ n. Some (record { inquiry = c.in_ok-inquiry.inquiry; left = queries - 1; due = n + gap }) in
    next_is c.args.now c.args.id waits (at c.get.result) few (ap at c.get.ensures.value ∙ begun_by (next_to_ask waits) c.args.now c.args.id c.in_ok-inquiry.inquiry c.in_ok-inquiry.ensures)
