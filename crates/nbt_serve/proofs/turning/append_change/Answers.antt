use Rattle.std.proofs.Common.{None, refl, sym}
use Rattle.nbt_serve.specs.Changing.{IsChange}
use Rattle.nbt_serve.proofs.Told.{no_change}
use Rattle.nbt_serve.proofs.Passed.{appended_one, not_appended_one}
use Rattle.nbt_serve.proofs.turning.append_change.Goals as goal

pub returns-then-not-changes_leases-clause-ok : goal.returns-then-not-changes_leases-clause-ok
returns-then-not-changes_leases-clause-ok g c = (None, no_change c.args.outcome.now c.args.server.now (sym c.if-not-changes_leases.ensures), refl, refl)

pub returns-in-Some-clause-ok : goal.returns-in-Some-clause-ok
returns-in-Some-clause-ok g c =
    appended_one g.S.Store.does c.args.store.now c.append.new.store (IsChange c.args.outcome.now c.args.server.now) c.in-Some.change c.args.waiting.now c.append.new.self c.append.result c.in-Some.ensures c.append.ensures.did c.append.ensures.ok

pub returns-in-Some-clause-err : goal.returns-in-Some-clause-err
returns-in-Some-clause-err g c =
    not_appended_one g.S.Store.does c.args.store.now c.append.new.store (IsChange c.args.outcome.now c.args.server.now) c.in-Some.change c.args.waiting.now c.append.new.self c.append.result c.in-Some.ensures c.append.ensures.did c.append.ensures.err

pub returns-in-None-clause-ok : goal.returns-in-None-clause-ok
returns-in-None-clause-ok g c = (None, c.in-None.ensures, refl, refl)
