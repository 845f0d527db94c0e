use Rattle.std.proofs.Common.{◌≡◌, ◌<◌, ◌≤◌, ◌+◌, ap, sym, ◌∙◌, arith}
use Rattle.nbt_lease.specs.Drift.{quiet}
use Rattle.nbt_node.specs.Moves.{refreshes_again, refreshes}
use Rattle.nbt_node.proofs.polling.next_refresh.Goals as goal

pub returns-else-not-is_next-clause-moves : goal.returns-else-not-is_next-clause-moves
returns-else-not-is_next-clause-moves c = λ node name kind ttl until id_is life_is.
    rw (c.in-Some.is, c.again.ensures, ← id_is) (refreshes_again kind ttl until c.args.renew c.args.last c.in-Some.refresh (sym c.if-not-is_next.ensures))

pub returns-else-get-quiet-clause-moves : goal.returns-else-get-quiet-clause-moves
returns-else-get-quiet-clause-moves c = λ node name kind ttl until id_is life_is.
    let ready : c.args.renew ≤ c.args.now = omega arith in
    let quiet_is : c.quiet.result ≡ quiet node.config.life = c.quiet.ensures.value ∙ sym (ap quiet life_is) in
    let rested : c.args.last + quiet node.config.life < c.args.now = omega (arith, quiet_is) in
    rw (c.in-None.is, c.open.ensures, c.id_after.ensures, ← id_is) (refreshes kind ttl until c.args.renew c.args.last ready rested)
