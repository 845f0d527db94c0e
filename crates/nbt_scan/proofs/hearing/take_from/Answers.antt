use Rattle.std.proofs.Common.{ℕ, List, Some, None, ap, subst, ◌∙◌, rules}
use Rattle.nbt_scan.specs.Plans.{IsPlaceOf}
use Rattle.nbt_scan.specs.Scanning.{hears_nothing, hears_other_port, hears_stranger, hears_early, hears_again, hears_other, hears_reply}
use Rattle.nbt_scan.proofs.hearing.take_from.Goals as goal

pub returns-in_default-clause-hears : goal.returns-in_default-clause-hears
returns-in_default-clause-hears c = rw c.in_default.is hears_nothing

pub returns-then-from-plan-clause-hears : goal.returns-then-from-plan-clause-hears
returns-then-from-plan-clause-hears c = rw c.in-Some.is (hears_other_port c.in-Some.from c.args.octets.now c.if-from-plan.true)

pub returns-in_default-place_of-clause-hears : goal.returns-in_default-place_of-clause-hears
returns-in_default-place_of-clause-hears c =
    rw c.in-Some.is (hears_stranger c.in-Some.from c.args.octets.now (subst (λ (ips : List ℕ). IsPlaceOf ips c.in-Some.from.peer.ip None) c.as_slice.ensures.value c.in_default-place_of.ensures))

pub returns-then-not-has_passed-clause-hears : goal.returns-then-not-has_passed-clause-hears
returns-then-not-has_passed-clause-hears c =
    let place = c.in-Some-place_of.place in
    rw c.in-Some.is
    (hears_early c.in-Some.from c.args.octets.now place (subst (λ (ips : List ℕ). IsPlaceOf ips c.in-Some.from.peer.ip (Some place)) c.as_slice.ensures.value c.in-Some-place_of.ensures)
    (λ passed. let yes = c.has_passed.ensures.1 passed in absurd (search (rules, yes))))

pub returns-then-has-clause-hears : goal.returns-then-has-clause-hears
returns-then-has-clause-hears c =
    let place = c.in-Some-place_of.place in
    rw c.in-Some.is
    (hears_again c.in-Some.from c.args.octets.now place (subst (λ (ips : List ℕ). IsPlaceOf ips c.in-Some.from.peer.ip (Some place)) c.as_slice.ensures.value c.in-Some-place_of.ensures)
    (c.has.ensures ∙ ap Some c.if-has.true))

pub returns-in_default-status_in-clause-hears : goal.returns-in_default-status_in-clause-hears
returns-in_default-status_in-clause-hears c =
    let place = c.in-Some-place_of.place in
    rw c.in-Some.is
    (hears_other c.in-Some.from c.args.octets.now place (subst (λ (ips : List ℕ). IsPlaceOf ips c.in-Some.from.peer.ip (Some place)) c.as_slice.ensures.value c.in-Some-place_of.ensures)
    c.in_default-status_in.ensures.none)

pub returns-clause-hears : goal.returns-clause-hears
returns-clause-hears c =
    let place = c.in-Some-place_of.place in
    let status = c.in-Some-status_in.status in
    rw (c.in-Some.is, c.mark.ensures)
    (hears_reply c.in-Some.from c.args.octets.now status.names.now status.statistics.now place (search rules)
    (subst (λ (ips : List ℕ). IsPlaceOf ips c.in-Some.from.peer.ip (Some place)) c.as_slice.ensures.value c.in-Some-place_of.ensures) (c.has_passed.ensures.0 (search rules))
    (c.has.ensures ∙ ap Some c.if-has.false) c.in-Some-status_in.ensures.found)
