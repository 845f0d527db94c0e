use Rattle.nbt_serve.proofs.SambaTaken.{untaken, overwrite_flags}
use Rattle.nbt_serve.proofs.samba.asked_in.Goals as goal

pub returns-in_err-group-clause-none : goal.returns-in_err-group-clause-none
returns-in_err-group-clause-none c =
    let octets = c.args.octets.now in
    λ none. untaken octets (λ requests. let e = c.if-is_multi_homed.ensures.1 (rw c.read_word-flags.ensures requests) in absurd cc) (λ r own. let e = (c.group_overwrite_in.ensures r).1 own in let none = c.in_err-group.was in absurd cc)

pub returns-then-not-is_overwrite-clause-none : goal.returns-then-not-is_overwrite-clause-none
returns-then-not-is_overwrite-clause-none c =
    let octets = c.args.octets.now in
    λ none. untaken octets (λ requests. let e = c.if-is_multi_homed.ensures.1 (rw c.read_word-flags.ensures requests) in absurd cc) (λ r own. let e = c.is_overwrite.ensures.1 (rw c.read_word-flags.ensures (overwrite_flags octets r own.0)) in let f = c.if-not-is_overwrite.true in absurd cc)

pub returns-clause-asks : goal.returns-clause-asks
returns-clause-asks c =
    let octets = c.args.octets.now in
    let own = (c.group_overwrite_in.ensures c.in_ok-group.group).0 c.in_ok-group.was in
    (own.0, own.1, λ requests. let e = c.if-is_multi_homed.ensures.1 (rw c.read_word-flags.ensures requests) in absurd cc)
