use Rattle.std.proofs.Common.{◌∙◌, [], refl, sym, arith}
use Rattle.std.proofs.lemmas.Result.{err_from_is_err_and}
use Rattle.nbt_host.specs.ReleaseTurns.{Releasing, Giving}
use Rattle.nbt_host.proofs.Passing.{passed_on, over_at_last, broken_at_last, spent_at_last}
use Rattle.nbt_host.proofs.release_turns.release_all.Goals as goal

pub loop-init : goal.loop-init
loop-init g c = record { passed = ([], refl, refl); count = refl }

pub loop-preserved : goal.loop-preserved
loop-preserved g c =
    let old : Giving g.row.P.Denot g.row.C.Denot = record { clock = c.args.clock.now; here = record { port = c.args.port.now; releases = c.args.releases.now } } in
    let mid : Releasing g.row.P.Denot = record { port = c.loop.port; releases = c.loop.releases } in
    let new : Releasing g.row.P.Denot = record { port = c.go.new.port; releases = c.go.new.releases } in
    record {
      passed = passed_on g.P.Port.does g.C.Clock.tells c.args.server c.args.own c.loop.counter old mid c.loop.clock c.now-now.new.self c.now-now.result c.loop.invariant.passed c.now-now.ensures new
          (sym c.is_any_open.ensures ∙ c.if-not-is_any_open.false) c.in_ok-go.ensures.ok;
      count = c.in_ok-go.ensures.device ∙ c.loop.invariant.count;
    }

pub returns-then-not-is_any_open-clause-ok : goal.returns-then-not-is_any_open-clause-ok
returns-then-not-is_any_open-clause-ok g c =
    let old : Giving g.row.P.Denot g.row.C.Denot = record { clock = c.args.clock.now; here = record { port = c.args.port.now; releases = c.args.releases.now } } in
    let mid : Releasing g.row.P.Denot = record { port = c.loop.port; releases = c.loop.releases } in
    over_at_last g.P.Port.does g.C.Clock.tells c.args.server c.args.own c.loop.counter old mid c.loop.clock c.now-now.new.self c.now-now.result c.loop.invariant.passed c.now-now.ensures c.args.most
    (sym c.is_any_open.ensures ∙ c.if-not-is_any_open.true)

pub returns-clause-ok : goal.returns-clause-ok
returns-clause-ok g c =
    let old : Giving g.row.P.Denot g.row.C.Denot = record { clock = c.args.clock.now; here = record { port = c.args.port.now; releases = c.args.releases.now } } in
    spent_at_last g.P.Port.does g.C.Clock.tells c.args.server c.args.own c.loop.counter c.args.most old (record { clock = c.loop.clock; here = record { port = c.loop.port; releases = c.loop.releases } })
    c.loop.invariant.passed (omega (arith, c.loop-test.false, c.loop.auto.counter-end))

pub returns-in_err-go-clause-err : goal.returns-in_err-go-clause-err
returns-in_err-go-clause-err g c =
    let p = err_from_is_err_and c.from_residual.result c.from_residual.ensures.1 in
    let old : Giving g.row.P.Denot g.row.C.Denot = record { clock = c.args.clock.now; here = record { port = c.args.port.now; releases = c.args.releases.now } } in
    let mid : Releasing g.row.P.Denot = record { port = c.loop.port; releases = c.loop.releases } in
    let new : Releasing g.row.P.Denot = record { port = c.go.new.port; releases = c.go.new.releases } in
    rw p.1 (broken_at_last g.P.Port.does g.C.Clock.tells c.args.server c.args.own c.loop.counter old mid c.loop.clock c.now-now.new.self c.now-now.result c.loop.invariant.passed c.now-now.ensures c.args.most new
    c.loop-test.true (sym c.is_any_open.ensures ∙ c.if-not-is_any_open.false) c.in_err-go.ensures.err)
