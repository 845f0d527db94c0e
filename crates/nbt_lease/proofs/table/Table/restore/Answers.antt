use Rattle.std.proofs.lemmas.Result.{err_from_is_err_and}
use Rattle.std.proofs.Common.{◌≡◌, ◌+◌, ◌*◌, Err, ℕ, length, sym, ap, ◌∙◌, subst, refl, arith}
use Rattle.nbt_lease.proofs.Common.{leases_at, live_count, latest_end, AreSound, rows_of}
use Rattle.nbt_lease.specs.declared.fault.RestoreFault.TheVariants.{Unsound}
use Rattle.nbt_lease.proofs.Restored.{counted_live, one_fault}
use Rattle.nbt_lease.proofs.table.Table.restore.Goals as goal

latest_is : (ms now seconds longest other : ℕ) → ms ≡ now → seconds ≡ other → other ≡ longest → ms + 1000 * seconds ≡ now + 1000 * longest
latest_is ms now seconds longest other same from is = omega (arith, same, from, is)

pub returns-in_err-begin_live-clause-unsound : goal.returns-in_err-begin_live-clause-unsound
returns-in_err-begin_live-clause-unsound c is sound =
    let p = err_from_is_err_and c.from_residual.result c.from_residual.ensures.1 in
    let fault : c.begin_live.result ≡ Err Unsound = c.in_err-begin_live.was ∙ ap Err (sym p.2 ∙ one_fault c.from_residual.result p.0 Unsound p.1 is) in
    c.begin_live.ensures.unsound fault
    (λ q. subst (λ (latest : ℕ). AreSound latest (leases_at c.get-ms.result c.args.rows.now q)) (sym (latest_is c.get-ms.result c.args.now c.from.result c.args.config.longest c.longest.result c.get-ms.ensures.value c.from.ensures c.longest.ensures.value))
    (subst (λ (m : ℕ). AreSound (latest_end c.args.config c.args.now) (leases_at m c.args.rows.now q)) (sym c.get-ms.ensures.value) (sound q)))

held : (c : goal.In_ok-begin_live) → (leases_at c.args.now (rows_of c.begin_live.new.index) ≡ leases_at c.args.now c.args.rows.now) × (length (rows_of c.begin_live.new.index) ≡ live_count c.args.now c.args.rows.now)
held c = counted_live c.args.now c.begin_live.new.index c.args.rows.now c.begin_live.ensures.names (c.in_ok-begin_live.ensures.leases ∙ (λ i. leases_at (c.get-ms.ensures.value i) c.args.rows.now))

pub returns-clause-leases : goal.returns-clause-leases
returns-clause-leases c = (held c).0

pub returns-clause-sound : goal.returns-clause-sound
returns-clause-sound c is q =
    subst (λ (latest : ℕ). AreSound latest (leases_at c.args.now c.args.rows.now q)) (latest_is c.get-ms.result c.args.now c.from.result c.args.config.longest c.longest.result c.get-ms.ensures.value c.from.ensures c.longest.ensures.value)
    (subst (λ (m : ℕ). AreSound (c.get-ms.result + 1000 * c.from.result) (leases_at m c.args.rows.now q)) c.get-ms.ensures.value (c.in_ok-begin_live.ensures.sound q))

pub invariant_of-result : goal.invariant_of-result
invariant_of-result c = (
  c.begin_live.ensures.names,
  λ q. subst (λ f. AreSound (latest_end c.args.config c.args.now) (f q)) (sym (held c).0) (returns-clause-sound c refl q),
  omega (arith, (held c).1, c.count_live.ensures, c.rows.ensures.value, c.if-count_live-rows.false, ap (λ (m : ℕ). live_count m c.args.rows.now) c.get-ms.ensures.value),
)
