use Rattle.std.proofs.Common.{◌≡◌, rules}
use Rattle.nbt_packet.specs.Message.{registered}
use Rattle.nbt_lease.specs.Config.{granted}
use Rattle.nbt_server.specs.Serving.{refusal, active_error}
use Rattle.nbt_front.specs.Deciding.{by_request, confirms, refuses}
use Rattle.nbt_front.proofs.Rulings.{denied, if_some, if_none}
use Rattle.nbt_front.proofs.deciding.Front.claim.Goals as goal
use Rattle.nbt_front.proofs.deciding.Front.claim.Goals.{else-holds-via-then-holds+else-is_free, else-holds-via-else-holds}

pub returns-in_default-clause-decided : goal.returns-in_default-clause-decided
returns-in_default-clause-decided c = if_some c.turn_away.result (λ d h m asks. h m (by_request m c.args.claim asks)) c.turn_away.ensures.decided

pub returns-in_default-clause-passed : goal.returns-in_default-clause-passed
returns-in_default-clause-passed c = if_none c.turn_away.result (λ h m asks. h m (by_request m c.args.claim asks)) c.turn_away.ensures.passed

pub returns-then-is_free-clause-decided : goal.returns-then-is_free-clause-decided
returns-then-is_free-clause-decided c =
    let free = rw c.to_name-name.ensures at (c.is_free.ensures.0 c.if-is_free.true) in
    let seconds_are : c.granted-seconds.result ≡ granted c.args.self.now.longest c.args.claim.ttl = search rules in
    λ m asks. (
      registered 0 (record c.args.claim { ttl = granted c.args.self.now.longest c.args.claim.ttl }),
      confirms m c.args.claim c.in-Some.fixed.now asks (rw (← c.self.view_is) (rw c.to_name-name.ensures at c.in-Some.ensures.found)) (record { holds = c.is_held_by-holds.ensures.0 c.if-holds.true; free = free.0; quiet = free.1 }),
      rw (← seconds_are) c.respond.ensures.written,
    )

pub returns-clause-decided : goal.returns-clause-decided
returns-clause-decided c = λ m asks. (
  refusal active_error c.args.claim,
  rw c.respond-name.ensures.name (refuses m c.args.claim c.in-Some.fixed.now asks (rw (← c.self.view_is) (rw c.to_name-name.ensures at c.in-Some.ensures.found))
      (λ may. elim c.else-holds.branch [
        | else-holds-via-then-holds+else-is_free w ↦ denied w.is_free.result w.is_free.ensures.1 w.if-is_free.false (rw c.to_name-name.ensures (may.free, may.quiet))
        | else-holds-via-else-holds w ↦ denied c.is_held_by-holds.result c.is_held_by-holds.ensures.1 w.if-holds.false may.holds
      ])),
  c.respond-name.ensures.written,
)
