use Rattle.std.proofs.lemmas.Result.{err_from_is_err_and}
use Rattle.nbt_lease.specs.declared.fault.RestoreFault.TheVariants.{Unsound}
use Rattle.std.proofs.Common.{Err, ◌≡◌, ◌+◌, ◌++◌, ◌∷◌, [], take, sym, ap, ◌∙◌, subst, arith}
use Rattle.nbt_lease.proofs.Common.{take_all, Entries, Rows, Leases, leases_at, AreSound, members_of, AreLive}
use Rattle.nbt_lease.proofs.Rows.{same_leases, none_live}
use Rattle.nbt_lease.proofs.Restored.{none_sound_at, no_names, all_live_at, rows_next, sound_next, sound_so_far}
use Rattle.nbt_lease.proofs.restoring.begin_live.Goals as goal

pub loop-place-init : goal.loop-place-init
loop-place-init c = (
  no_names c.args.index.now c.requires.empty,
  subst (λ (es : Entries). members_of es ≡ leases_at c.args.now []) (sym c.requires.empty) (same_leases (members_of []) (leases_at c.args.now []) (λ q. sym (none_live c.args.now q))),
  none_sound_at c.args.latest c.args.now,
)

pub begin_one-requires-clause-sound : goal.begin_one-requires-clause-sound
begin_one-requires-clause-sound c =
    subst (λ (f : Leases). AreSound c.args.latest (f c.index-rows-place.result.0)) (sym c.loop-place.invariant.1) (c.loop-place.invariant.2 c.index-rows-place.result.0)

pub begin_one-requires-clause-live : goal.begin_one-requires-clause-live
begin_one-requires-clause-live c =
    subst (λ (f : Leases). AreLive c.args.now (f c.index-rows-place.result.0)) (sym c.loop-place.invariant.1) (all_live_at c.args.now (take c.loop-place.place c.args.rows.now) c.index-rows-place.result.0)

pub returns-in_err-begin_one-clause-unsound : goal.returns-in_err-begin_one-clause-unsound
returns-in_err-begin_one-clause-unsound c is sound =
    let p = err_from_is_err_and c.from_residual.result c.from_residual.ensures.1 in
    let fault : c.begin_one.result ≡ Err Unsound = c.in_err-begin_one.was ∙ (ap Err (sym p.2) ∙ (sym p.1 ∙ is)) in
    let next : take (c.loop-place.place + 1) c.args.rows.now ≡ take c.loop-place.place c.args.rows.now ++ c.index-rows-place.result ∷ [] = rows_next c.args.rows.now c.loop-place.place c.index-rows-place.result c.loop-place-test.true c.index-rows-place.is in
    c.begin_one.ensures.unsound fault (take c.loop-place.place c.args.rows.now) c.loop-place.invariant.1
    (subst (λ (rs : Rows). AreSound c.args.latest (leases_at c.args.now rs c.index-rows-place.result.0)) next (sound_so_far c.args.latest c.args.now c.args.rows.now (c.loop-place.place + 1) c.index-rows-place.result.0 (sound c.index-rows-place.result.0)))

pub loop-place-preserved : goal.loop-place-preserved
loop-place-preserved c =
    let next : take (c.loop-place.place + 1) c.args.rows.now ≡ take c.loop-place.place c.args.rows.now ++ c.index-rows-place.result ∷ [] = rows_next c.args.rows.now c.loop-place.place c.index-rows-place.result c.loop-place-test.true c.index-rows-place.is in (
      c.begin_one.ensures.names,
      c.in_ok-begin_one.ensures.leases (take c.loop-place.place c.args.rows.now) c.loop-place.invariant.1 ∙ ap (leases_at c.args.now) (sym next),
      λ q. subst (λ (rs : Rows). AreSound c.args.latest (leases_at c.args.now rs q)) (sym next)
          (sound_next c.args.latest c.args.now (take c.loop-place.place c.args.rows.now) c.index-rows-place.result c.loop-place.invariant.2 (c.in_ok-begin_one.ensures.sound (take c.loop-place.place c.args.rows.now) c.loop-place.invariant.1) q),
    )

pub returns-clause-sound : goal.returns-clause-sound
returns-clause-sound c q =
    subst (λ (rs : Rows). AreSound c.args.latest (leases_at c.args.now rs q)) (take_all c.loop-place.place c.args.rows.now (omega arith)) (c.loop-place.invariant.2 q)
