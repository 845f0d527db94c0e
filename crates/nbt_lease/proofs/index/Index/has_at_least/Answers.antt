use Rattle.std.proofs.Common.{refl, ap, arith}
use Rattle.nbt_lease.proofs.Common.{false≢true, Entries, rows_of}
use Rattle.nbt_lease.specs.Lease.{count_of}
use Rattle.nbt_lease.proofs.Tallying.{live_at_most, all_live_of}
use Rattle.nbt_lease.proofs.index.Index.has_at_least.Goals as goal

pub returns-then-count_of-count : goal.returns-then-count_of-count
returns-then-count_of-count c =
    let few = live_at_most c.args.now c.args.addr c.self.inside.members.entries c.self.inside.ends c.self.invariant in
    let seen = ap (λ (es : Entries). count_of c.args.now c.args.addr (rows_of es)) c.self.view_is in
    (λ never. absurd (false≢true never), λ within. absurd (omega (arith, within, few, seen, c.count_of.ensures, c.if-count_of-count.true)))

pub returns-then-not-any_over : goal.returns-then-not-any_over
returns-then-not-any_over c =
    let all = all_live_of c.args.now c.args.addr c.self.inside.members.entries c.self.inside.ends c.self.invariant c.if-not-any_over.ensures.live in
    let seen = ap (λ (es : Entries). count_of c.args.now c.args.addr (rows_of es)) c.self.view_is in
    (λ yes. omega (arith, all, seen, c.count_of.ensures, c.if-count_of-count.false), λ within. refl)
