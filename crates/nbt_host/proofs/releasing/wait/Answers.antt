use Rattle.std.proofs.Common.{◌∙◌, refl, [], Bool, subst, arith}
use Rattle.std.proofs.lemmas.Result.{err_from_is_err_and}
use Rattle.nbt_host.specs.Hosting.{Terms}
use Rattle.nbt_host.specs.Releasing.{Releasing, is_spent}
use Rattle.nbt_host.specs.Inner.Parts.{EndTurnIs}
use Rattle.nbt_host.proofs.Releases.{passed_on, over_at_last, broken_at_last}
use Rattle.nbt_host.proofs.releasing.wait.Goals as goal

pub loop-init : goal.loop-init
loop-init g c = record { passed = ([], refl, refl); count = refl }

pub loop-preserved : goal.loop-preserved
loop-preserved g c =
    let t : Terms = record { slots = g.row.N; server = c.args.server; config = c.args.config } in
    let old : Releasing g.row.P.Denot g.row.K.Denot = record { port = c.args.port.now; watch = c.args.watch.now; last = c.args.last.now; host = record { goals = c.args.goals.now; node = c.args.node.now } } in
    let mid : Releasing g.row.P.Denot g.row.K.Denot = record { port = c.loop.port; watch = c.loop.watch; last = c.loop.last; host = record { goals = c.loop.goals; node = c.loop.node } } in
    let new : Releasing g.row.P.Denot g.row.K.Denot = record { port = c.end_turn.new.port; watch = c.end_turn.new.watch; last = c.end_turn.new.last; host = record { goals = c.end_turn.new.goals; node = c.end_turn.new.node } } in
    record {
      passed = passed_on g.P.Port.does g.K.Clock.tells g.K.Watch.looks t c.args.limit c.loop.counter old mid new c.loop.invariant.passed
          (subst (λ (x : Bool). EndTurnIs g.P.Port.does g.K.Clock.tells g.K.Watch.looks t c.args.limit x mid new) c.if-not-goes_on.false c.in_ok-goes_on.ensures.ok);
      count = c.in_ok-goes_on.ensures.device ∙ c.loop.invariant.count;
    }

pub returns-then-not-goes_on-clause-ok : goal.returns-then-not-goes_on-clause-ok
returns-then-not-goes_on-clause-ok g c =
    let t : Terms = record { slots = g.row.N; server = c.args.server; config = c.args.config } in
    let old : Releasing g.row.P.Denot g.row.K.Denot = record { port = c.args.port.now; watch = c.args.watch.now; last = c.args.last.now; host = record { goals = c.args.goals.now; node = c.args.node.now } } in
    let mid : Releasing g.row.P.Denot g.row.K.Denot = record { port = c.loop.port; watch = c.loop.watch; last = c.loop.last; host = record { goals = c.loop.goals; node = c.loop.node } } in
    let new : Releasing g.row.P.Denot g.row.K.Denot = record { port = c.end_turn.new.port; watch = c.end_turn.new.watch; last = c.end_turn.new.last; host = record { goals = c.end_turn.new.goals; node = c.end_turn.new.node } } in
    over_at_last g.P.Port.does g.K.Clock.tells g.K.Watch.looks t c.args.limit c.loop.counter old mid new c.loop.invariant.passed c.args.most
    (subst (λ (x : Bool). EndTurnIs g.P.Port.does g.K.Clock.tells g.K.Watch.looks t c.args.limit x mid new) c.if-not-goes_on.true c.in_ok-goes_on.ensures.ok)

pub returns-clause-ok : goal.returns-clause-ok
returns-clause-ok g c = let x = c.loop.invariant.passed in is_spent x.0 x.1 (omega (arith, x.2, c.loop-test.false, c.loop.auto.counter-end))

pub returns-in_err-goes_on-clause-err : goal.returns-in_err-goes_on-clause-err
returns-in_err-goes_on-clause-err g c =
    let p = err_from_is_err_and c.from_residual.result c.from_residual.ensures.1 in
    let t : Terms = record { slots = g.row.N; server = c.args.server; config = c.args.config } in
    let old : Releasing g.row.P.Denot g.row.K.Denot = record { port = c.args.port.now; watch = c.args.watch.now; last = c.args.last.now; host = record { goals = c.args.goals.now; node = c.args.node.now } } in
    let mid : Releasing g.row.P.Denot g.row.K.Denot = record { port = c.loop.port; watch = c.loop.watch; last = c.loop.last; host = record { goals = c.loop.goals; node = c.loop.node } } in
    let new : Releasing g.row.P.Denot g.row.K.Denot = record { port = c.end_turn.new.port; watch = c.end_turn.new.watch; last = c.end_turn.new.last; host = record { goals = c.end_turn.new.goals; node = c.end_turn.new.node } } in
    rw p.1 (broken_at_last g.P.Port.does g.K.Clock.tells g.K.Watch.looks t c.args.limit c.loop.counter old mid new c.loop.invariant.passed c.args.most c.loop-test.true c.in_err-goes_on.ensures.err)
