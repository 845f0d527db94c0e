use Rattle.std.proofs.Common.{Some, List, sym, ap, ◌∙◌}
use Rattle.nbt_lease.proofs.Common.{lookup, set_value_same, same_name, Lease, Entries}
use Rattle.nbt_lease.proofs.Agreeing.{if_none}
use Rattle.nbt_lease.proofs.both.take_out.Goals as goal

pub returns-in_err-lease-clause-left : goal.returns-in_err-lease-clause-left
returns-in_err-lease-clause-left c =
    let same = (c.get_mut.follows.holds c.take.new.self).0 ∙ set_value_same (same_name c.args.name.now) c.args.members.now.entries c.take.new.self (sym c.in_ok-named.ensures.value ∙ ap (λ (ls : List Lease). Some ls) (sym c.in_err-lease.ensures.unchanged)) in
    if_none c.from_residual-in_err-lease.result _ (λ q. ap (λ (es : Entries). lookup (same_name q) es) same)
