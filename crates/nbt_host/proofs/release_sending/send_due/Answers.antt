use Rattle.std.proofs.Common.{◌∙◌, [], get_or, refl, arith}
use Rattle.std.proofs.lemmas.Result.{err_from_is_err_and}
use Rattle.nbt_host.specs.ReleaseTurns.{Releasing}
use Rattle.nbt_host.specs.declared.release.Release.{Release}
use Rattle.nbt_host.proofs.Sendings.{sent_on, lost_on, done_on, done_all}
use Rattle.nbt_host.proofs.release_sending.send_due.Goals as goal

pub loop-release-init : goal.loop-release-init
loop-release-init g c = record { reached = ([], refl); none_due = refl; count = refl }

pub loop-release-preserved : goal.loop-release-preserved
loop-release-preserved g c =
    let first : Releasing g.row.P.Denot = record { port = c.args.port.now; releases = c.args.releases.now } in
    let r : Release = get_or c.loop-release.releases c.loop-release.release-index c.release-item.result in
    record {
      reached = sent_on g.P.Port.does c.args.server c.args.own c.args.now first c.loop-release.port c.send_one.new.port c.loop-release.releases c.loop-release.release-index r c.release-item.result c.send_one.new.release
          (omega arith) refl c.loop-release.invariant.reached c.in_ok-send_one.ensures.ok;
      none_due = done_on g.P.Port.does c.args.server c.args.own c.args.now c.loop-release.port c.send_one.new.port c.loop-release.releases c.loop-release.release-index r c.send_one.new.release
          (omega arith) c.loop-release.invariant.none_due c.in_ok-send_one.ensures.ok;
      count = c.in_ok-send_one.ensures.device ∙ c.loop-release.invariant.count;
    }

pub returns-clause-all : goal.returns-clause-all
returns-clause-all g c = done_all c.args.now c.loop-release.releases c.loop-release.release-index (omega arith) c.loop-release.invariant.none_due

pub returns-in_err-send_one-clause-err : goal.returns-in_err-send_one-clause-err
returns-in_err-send_one-clause-err g c =
    let p = err_from_is_err_and c.from_residual.result c.from_residual.ensures.1 in
    let first : Releasing g.row.P.Denot = record { port = c.args.port.now; releases = c.args.releases.now } in
    let r : Release = get_or c.loop-release.releases c.loop-release.release-index c.release-item.result in
    rw p.1 (lost_on g.P.Port.does c.args.server c.args.own c.args.now first c.loop-release.port c.send_one.new.port c.loop-release.releases c.loop-release.release-index r c.release-item.result c.send_one.new.release
    (omega arith) refl c.loop-release.invariant.reached c.in_err-send_one.ensures.err)
