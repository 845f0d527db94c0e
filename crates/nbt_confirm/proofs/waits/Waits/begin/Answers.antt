use Rattle.std.proofs.Common.{◌≡◌, sym, ap, ◌∙◌}
use Rattle.nbt_confirm.specs.Waiting.{WaitsValue, next_begun}
use Rattle.nbt_confirm.proofs.Hearing.{begins_none, begins_one, sends_none, sends_one}
use Rattle.nbt_confirm.proofs.waits.Waits.begin.Goals as goal

pub returns-in_err-pending-clause-sends : goal.returns-in_err-pending-clause-sends
returns-in_err-pending-clause-sends c =
    let same : ◌≡◌ {A = WaitsValue} (record { requests = c.as_slice.result.now; pending = c.as_slice-2.result.now }) c.args.self.now = rw (c.as_slice.ensures.value, c.as_slice-2.ensures.value) c.self.view_is in
    sends_none (next_begun c.args.now c.args.id c.args.self.now) c.from_residual.result c.clear.new.self.items (ap (next_begun c.args.now c.args.id) (sym same) ∙ sym c.in_err-pending.ensures.begun) c.from_residual.ensures c.clear.ensures

pub returns-in_err-pending-clause-pending : goal.returns-in_err-pending-clause-pending
returns-in_err-pending-clause-pending c =
    let same : ◌≡◌ {A = WaitsValue} (record { requests = c.as_slice.result.now; pending = c.as_slice-2.result.now }) c.args.self.now = rw (c.as_slice.ensures.value, c.as_slice-2.ensures.value) c.self.view_is in
    begins_none c.args.self.now (next_begun c.args.now c.args.id c.args.self.now) (ap (next_begun c.args.now c.args.id) (sym same) ∙ sym c.in_err-pending.ensures.begun)

pub returns-clause-sends : goal.returns-clause-sends
returns-clause-sends c =
    let same : ◌≡◌ {A = WaitsValue} (record { requests = c.as_slice.result.now; pending = c.as_slice-2.result.now }) c.args.self.now = rw (c.as_slice.ensures.value, c.as_slice-2.ensures.value) c.self.view_is in
    sends_one (next_begun c.args.now c.args.id c.args.self.now) c.in_ok-pending.pending c.way-way.result c.write_inquiry.new.out.items (c.in_ok-pending.ensures.begun ∙ ap (next_begun c.args.now c.args.id) same) c.way-way.ensures c.write_inquiry.ensures.form

pub returns-clause-pending : goal.returns-clause-pending
returns-clause-pending c =
    let same : ◌≡◌ {A = WaitsValue} (record { requests = c.as_slice.result.now; pending = c.as_slice-2.result.now }) c.args.self.now = rw (c.as_slice.ensures.value, c.as_slice-2.ensures.value) c.self.view_is in
    begins_one c.self.inside.requests.items c.self.inside.pending.items c.push_reserved.new.self.items c.args.self.now (next_begun c.args.now c.args.id c.args.self.now) c.in_ok-pending.pending c.self.view_is c.push_reserved.ensures.items
    (c.in_ok-pending.ensures.begun ∙ ap (next_begun c.args.now c.args.id) same)
