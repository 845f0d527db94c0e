use Rattle.std.proofs.Common.{◌≡◌, refl}
use Rattle.nbt_server.proofs.Common.{OutOfMemory, by_limit, by_rule}
use Rattle.nbt_server.proofs.Rules.{does_grant, does_refuse, does_refuse_other, over_of, not_over}
use Rattle.nbt_server.proofs.serving.lease.Goals as goal

pub returns-in-Some-clause-does : goal.returns-in-Some-clause-does
returns-in-Some-clause-does c = rw c.refuse.ensures.outcome (λ m asks. by_rule (λ over. c.in-Some.ensures.other.0 (over_of c.args.client_rows c.args.table.now c.args.now c.args.ip c.args.asked m asks over).0) (
    does_refuse_other c.args.table.now c.args.now c.args.ip c.args.asked _ c.refuse.new.out.items m asks c.in-Some.refusal c.in-Some.ensures.other.0 c.in-Some.ensures.other.1 refl c.refuse.ensures.written))

pub returns-in-Ok-clause-does : goal.returns-in-Ok-clause-does
returns-in-Ok-clause-does c = rw c.accept.ensures.outcome (λ m asks. by_rule (λ over. not_over c.args.client_rows c.args.table.now c.args.now c.args.ip c.args.asked m asks (rw c.from_registration-claim.ensures at c.if-is_full.ensures) over) (
    does_grant c.args.table.now c.args.now c.args.ip c.args.asked _ c.accept.new.out.items m asks c.in-Ok.grant _ c.in_default.ensures.own (rw c.from_registration-claim.ensures at (c.in-Ok.ensures.rule (λ e. absurd cc))) refl c.accept.ensures.written))

pub returns-clause-does : goal.returns-clause-does
returns-clause-does c = rw c.refuse-2.ensures.outcome (λ m asks. by_rule (λ over. not_over c.args.client_rows c.args.table.now c.args.now c.args.ip c.args.asked m asks (rw c.from_registration-claim.ensures at c.if-is_full.ensures) over) (
    does_refuse c.args.table.now c.args.now c.args.ip c.args.asked _ c.refuse-2.new.out.items m asks c.in-Err.fault c.in-Some-refusal_by.refusal _ c.in_default.ensures.own
    (rw c.from_registration-claim.ensures at (c.in-Err.ensures.rule (λ e. let same : c.in-Err.fault ≡ OutOfMemory = cc in c.in-Some-refusal_by.ensures.refusal.1 same))) c.in-Err.ensures.refused (rw c.from_registration-claim.ensures at c.in-Some-refusal_by.ensures.refusal.0) refl c.refuse-2.ensures.written))

pub returns-then-is_full-clause-does : goal.returns-then-is_full-clause-does
returns-then-is_full-clause-does c = rw c.refuse-then-is_full.ensures.outcome (λ m asks.
    by_limit (record { r = c.args.asked; asks = asks; own = c.in_default.ensures.own; full = rw c.from_registration-claim.ensures at (c.if-is_full.ensures.0 refl) }) refl c.refuse-then-is_full.ensures.written c.sweep_some.ensures.leases)

pub returns-in_default-refusal_by-clause-room : goal.returns-in_default-refusal_by-clause-room
returns-in_default-refusal_by-clause-room c = λ m asks. not_over c.args.client_rows c.args.table.now c.args.now c.args.ip c.args.asked m asks (rw c.from_registration-claim.ensures at c.if-is_full.ensures)
