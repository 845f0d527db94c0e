use Rattle.std.proofs.Common.{ℕ, ap, refl, ◌∙◌}
use Rattle.nbt_server.proofs.Common.{Leases, holder}
use Rattle.nbt_lease.specs.declared.lease.Released.TheVariants as outcomes
use Rattle.nbt_server.specs.declared.outcome.Outcome.TheVariants as o
use Rattle.nbt_server.specs.declared.outcome.Refusal.TheVariants as why
use Rattle.nbt_server.proofs.Rules.{does_release, does_refuse_release}
use Rattle.nbt_server.proofs.serving.release.Goals as goal

pub returns-in-Some-clause-does : goal.returns-in-Some-clause-does
returns-in-Some-clause-does c =
    does_refuse_release c.args.table.now c.args.now c.args.ip c.args.id c.args.claim c.refuse_release.result c.refuse_release.new.out.items c.in-Some.refusal (rw c.lend.ensures at c.in-Some.ensures.other.0) c.in-Some.ensures.other.1
    c.refuse_release.ensures.outcome c.refuse_release.ensures.written

pub returns-in-Gone-clause-does : goal.returns-in-Gone-clause-does
returns-in-Gone-clause-does c =
    does_release c.args.table.now c.args.now c.args.ip c.args.id c.args.claim _ c.respond_release.new.out.items outcomes.Gone _ (rw c.lend.ensures at c.in_default.ensures.own) c.in-Gone.ensures.rule refl
    c.respond_release.ensures

pub returns-in-NoLease-clause-does : goal.returns-in-NoLease-clause-does
returns-in-NoLease-clause-does c =
    does_release c.args.table.now c.args.now c.args.ip c.args.id c.args.claim _ c.respond_release-in-NoLease.new.out.items outcomes.NoLease _ (rw c.lend.ensures at c.in_default.ensures.own) c.in-NoLease.ensures.rule refl
    c.respond_release-in-NoLease.ensures

pub returns-in-OfOthers-clause-does : goal.returns-in-OfOthers-clause-does
returns-in-OfOthers-clause-does c =
    does_release c.args.table.now c.args.now c.args.ip c.args.id c.args.claim c.refuse_release-in-OfOthers.result c.refuse_release-in-OfOthers.new.out.items outcomes.OfOthers _ (rw c.lend.ensures at c.in_default.ensures.own) c.in-OfOthers.ensures.rule
    (c.refuse_release-in-OfOthers.ensures.outcome
    ∙ ap (λ (n : ℕ). o.NotReleased c.args.claim (why.Active n)) (c.holder-holder.ensures ∙ ap (λ (ls : Leases). holder (ls c.args.claim.name)) (c.in-OfOthers.ensures.unchanged (λ e. absurd cc))))
    c.refuse_release-in-OfOthers.ensures.written
