use Rattle.nbt_c.proofs.Common.{◌≡◌, ◌<◌, ◌≤◌, ℕ, List, Some, None, refl, sym, ap, subst, ◌∙◌, slice_get, Lease, TableValue, leases_at, TellsLease, above, moved}
use Rattle.nbt_c.specs.Serving as is
use Rattle.nbt_c.proofs.serving.report_lease.Goals as goal

pub returns-in_default : goal.returns-in_default
returns-in_default c = (None, is.TellsLease.has_no_moment (above c.in_default.ensures.found), refl)

pub returns-in_default-read : goal.returns-in_default-read
returns-in_default-read c = (None, is.TellsLease.has_no_name (c.in-Some.ensures.found.0 refl) c.in_default-read.ensures.none, refl)

pub returns-then-get : goal.returns-then-get
returns-then-get c =
    let at = c.get.ensures.value ∙ c.in-Some.ensures.value in let last = c.get-2.ensures.value ∙ c.last.ensures.last in (
      None,
      subst (λ n. TellsLease c.args.server.now c.args.now c.args.name.now c.args.which n None) (sym c.number.ensures)
          (is.TellsLease.is_late (c.in-Some.ensures.found.0 refl) c.in-Some-read.ensures.read.0 (subst (λ (w : ℕ × ℕ). w.0 < w.1) (λ i. (at i, last i)) c.if-get.true)),
      refl,
    )

pub returns-in-Some-nth_of : goal.returns-in-Some-nth_of
returns-in-Some-nth_of c =
    let at = c.get.ensures.value ∙ c.in-Some.ensures.value in let last = c.get-2.ensures.value ∙ c.last.ensures.last in let read = c.in-Some-read.ensures.read in
    let members = c.members.ensures.members ∙ ap (λ (t : TableValue). leases_at c.in-Some.now t.rows c.in-Some-read.name) c.table-table.ensures.table in (
      Some c.in-Some-nth_of.found,
      is.TellsLease.tells c.in-Some-nth_of.found (c.in-Some.ensures.found.0 refl) read.0 (subst (λ (w : ℕ × ℕ). w.1 ≤ w.0) (λ i. (at i, last i)) c.if-get.false)
          (moved (λ m name. slice_get (leases_at m c.args.server.now.table.rows name) c.args.which ≡ Some c.in-Some-nth_of.found) c.in-Some.ensures.value read.1
          (ap (λ (xs : List Lease). slice_get xs c.args.which) (sym members) ∙ sym c.nth_of.ensures ∙ c.in-Some-nth_of.is)),
      c.of.ensures,
    )

pub returns-in-None : goal.returns-in-None
returns-in-None c =
    let at = c.get.ensures.value ∙ c.in-Some.ensures.value in let last = c.get-2.ensures.value ∙ c.last.ensures.last in let read = c.in-Some-read.ensures.read in
    let members = c.members.ensures.members ∙ ap (λ (t : TableValue). leases_at c.in-Some.now t.rows c.in-Some-read.name) c.table-table.ensures.table in (
      None,
      is.TellsLease.tells_none (c.in-Some.ensures.found.0 refl) read.0 (subst (λ (w : ℕ × ℕ). w.1 ≤ w.0) (λ i. (at i, last i)) c.if-get.false)
          (moved (λ m name. slice_get (leases_at m c.args.server.now.table.rows name) c.args.which ≡ None) c.in-Some.ensures.value read.1
          (ap (λ (xs : List Lease). slice_get xs c.args.which) (sym members) ∙ sym c.nth_of.ensures ∙ c.in-None.is)),
      refl,
    )
