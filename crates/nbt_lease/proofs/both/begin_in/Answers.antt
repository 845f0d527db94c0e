use Rattle.std.proofs.Common.{Some, List, sym, ap, ◌∙◌}
use Rattle.nbt_lease.proofs.Common.{lookup, set_value_same, Lease, same_name, Entries}
use Rattle.nbt_lease.proofs.Agreeing.{on_err}
use Rattle.nbt_lease.proofs.both.begin_in.Goals as goal

pub returns-in_err-push-clause-members_left : goal.returns-in_err-push-clause-members_left
returns-in_err-push-clause-members_left c =
    let same = (c.get_mut.follows.holds c.push.new.self).0 ∙ set_value_same (same_name c.args.name.now) c.args.members.now.entries c.push.new.self (sym c.in-Some.ensures.value ∙ ap (λ (ls : List Lease). Some ls) (sym c.in_err-push.ensures.unchanged)) in
    on_err c.from_residual.result _ (λ q. ap (λ (es : Entries). lookup (same_name q) es) same)

pub returns-in-Err-clause-members_left : goal.returns-in-Err-clause-members_left
returns-in-Err-clause-members_left c q =
    let popped = c.pop.ensures c.in-Some.named.now c.args.lease c.in_ok-push.ensures.added in
    let same = (c.get_mut.follows.holds c.pop.new.self).0 ∙ set_value_same (same_name c.args.name.now) c.args.members.now.entries c.pop.new.self (sym c.in-Some.ensures.value ∙ ap (λ (ls : List Lease). Some ls) (sym popped)) in
    ap (λ (es : Entries). lookup (same_name q) es) same
