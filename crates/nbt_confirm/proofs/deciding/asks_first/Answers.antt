use Rattle.std.proofs.Common.{subst}
use Rattle.nbt_lease.specs.Lease.{leases_at}
use Rattle.nbt_name.specs.Wire.{NameValue}
use Rattle.nbt_confirm.specs.Deciding.{MayBegin, source, sender}
use Rattle.nbt_confirm.proofs.deciding.asks_first.Goals as goal

pub returns-then-claim-from-clause-asks : goal.returns-then-claim-from-clause-asks
returns-then-claim-from-clause-asks c = source (λ star. let e = c.is_star.ensures.1 star in let f = c.if-is_star.false in absurd cc) c.if-claim-from.true

pub returns-then-may_begin-clause-asks : goal.returns-then-may_begin-clause-asks
returns-then-may_begin-clause-asks c =
    sender (λ star. let e = c.is_star.ensures.1 star in let f = c.if-is_star.false in absurd cc) (search)
    (subst (λ (n : NameValue). MayBegin c.args.claim.now.kind c.args.from.ip (leases_at c.args.now c.args.table.now.rows n)) c.to_name-name.ensures (c.may_begin.ensures.0 c.if-may_begin.true))
