use Rattle.nbt_packet.specs.Message.{released}
use Rattle.nbt_server.specs.Serving.{active_error}
use Rattle.nbt_front.specs.Deciding.{desk_at, confirms_release, refuses_release}
use Rattle.nbt_front.proofs.Rulings.{at_none, denied, leased_release_passes, release_passes}
use Rattle.nbt_front.proofs.deciding.Front.release.Goals as goal

pub returns-in_err-fixed-clause-passed : goal.returns-in_err-fixed-clause-passed
returns-in_err-fixed-clause-passed c =
    at_none c.from_residual.result (release_passes (desk_at c.args.self.now c.args.standing.now) c.args.standing.now.at c.args.ip c.args.id c.args.name c.args.kind c.args.addr (rw (← c.self.view_is) c.in_err-fixed.ensures.none))

pub returns-then-has-clause-passed : goal.returns-then-has-clause-passed
returns-then-has-clause-passed c = leased_release_passes (desk_at c.args.self.now c.args.standing.now) c.args.standing.now.at c.args.ip c.args.id c.args.name c.args.kind c.args.addr (c.has.ensures.0 c.if-has.true)

pub returns-then-is_held_by-clause-decided : goal.returns-then-is_held_by-clause-decided
returns-then-is_held_by-clause-decided c = (
  released c.args.id 0 c.args.name c.args.kind c.args.addr,
  confirms_release c.args.id c.args.name c.args.kind c.args.addr c.in_ok-fixed.fixed.now (rw (← c.self.view_is) c.in_ok-fixed.ensures.found) (denied c.has.result c.has.ensures.1 c.if-has.false) (c.is_held_by.ensures.0 c.if-is_held_by.true),
  c.respond_release.ensures,
)

pub returns-clause-decided : goal.returns-clause-decided
returns-clause-decided c = (
  released c.args.id active_error c.args.name c.args.kind c.args.addr,
  refuses_release c.args.id c.args.name c.args.kind c.args.addr c.in_ok-fixed.fixed.now (rw (← c.self.view_is) c.in_ok-fixed.ensures.found) (denied c.has.result c.has.ensures.1 c.if-has.false) (denied c.is_held_by.result c.is_held_by.ensures.1 c.if-is_held_by.false),
  c.respond_release-2.ensures,
)
