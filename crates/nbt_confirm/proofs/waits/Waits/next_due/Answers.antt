use Rattle.std.proofs.Common.{◌≡◌, map, subst}
use Rattle.nbt_confirm.specs.Waiting.{IsFirst, WaitsValue, dues}
use Rattle.nbt_confirm.specs.declared.waits.Pending.{Pending}
use Rattle.nbt_confirm.proofs.waits.Waits.next_due.Goals as goal

pub returns : goal.returns
returns c =
    let same : ◌≡◌ {A = WaitsValue} (record { requests = c.as_slice-2.result.now; pending = c.as_slice.result.now }) c.args.self.now = rw (c.as_slice.ensures.value, c.as_slice-2.ensures.value) c.self.view_is in
    subst (λ (w : WaitsValue). IsFirst (dues w) c.first_end.result) same
    (c.first_end.ensures (map (λ (p : Pending). p.due) c.as_slice.result.now) c.first_query-query.ensures)
