use Rattle.std.proofs.Common.{◌≡◌, ◌==◌, ◌++◌, ◌∷◌, ℕ, List, true, false, cond, Some, is_some, length, sym, ap, subst, ◌∙◌, arith}
use Rattle.nbt_lease.proofs.Common.{lookup, ne_eqb, same_name, Lease, Due, at_name, Entries, members_of, rows_of, due, is_due, in_set, Agrees, IsMember}
use Rattle.nbt_lease.proofs.Rows.{at_same}
use Rattle.nbt_lease.proofs.Agreeing.{other_end, own_end, renews, members_at, on_err, unwritten, named_is}
use Rattle.nbt_lease.proofs.Flat.{counted}
use Rattle.nbt_lease.proofs.index.Index.renew.Goals as goal

pub invariant_of-self-in_default-place_of : goal.invariant_of-self-in_default-place_of
invariant_of-self-in_default-place_of c = subst (λ (es : Entries). Agrees es c.self.inside.ends) (c.self.view_is ∙ sym (unwritten c.self.inside.members.entries (c.get_mut.follows.lender c.in-Some.named.now).entries c.args.self.now c.args.name.now c.in-Some.named.now (c.get_mut.follows.holds c.in-Some.named.now).0 c.in-Some.ensures.value c.self.view_is)) c.self.invariant

pub returns-in_default-place_of-clause-none_left : goal.returns-in_default-place_of-clause-none_left
returns-in_default-place_of-clause-none_left c = ap members_of (unwritten c.self.inside.members.entries (c.get_mut.follows.lender c.in-Some.named.now).entries c.args.self.now c.args.name.now c.in-Some.named.now (c.get_mut.follows.holds c.in-Some.named.now).0 c.in-Some.ensures.value c.self.view_is)

pub returns-in_default-place_of-clause-count : goal.returns-in_default-place_of-clause-count
returns-in_default-place_of-clause-count c = ap (λ (es : Entries). length (rows_of es)) (unwritten c.self.inside.members.entries (c.get_mut.follows.lender c.in-Some.named.now).entries c.args.self.now c.args.name.now c.in-Some.named.now (c.get_mut.follows.holds c.in-Some.named.now).0 c.in-Some.ensures.value c.self.view_is)

pub invariant_of-self-then-end-before : goal.invariant_of-self-then-end-before
invariant_of-self-then-end-before c = subst (λ (es : Entries). Agrees es c.self.inside.ends) (c.self.view_is ∙ sym (unwritten c.self.inside.members.entries (c.get_mut.follows.lender c.in-Some.named.now).entries c.args.self.now c.args.name.now c.in-Some.named.now (c.get_mut.follows.holds c.in-Some.named.now).0 c.in-Some.ensures.value c.self.view_is)) c.self.invariant

pub returns-then-end-before-clause-renewed : goal.returns-then-end-before-clause-renewed
returns-then-end-before-clause-renewed c =
    let p = c.in-Some-place_of.ensures in
    let before : List Lease = p.0 in
    let lease : Lease = p.1 in
    let behind : List Lease = p.2 in
    let told : c.end_at-before.result ≡ lease.end = c.end_at-before.ensures before lease behind p.3.is p.4 in
    let is : members_of c.args.self.now c.args.name.now ≡ before ++ lease ∷ behind = ap (λ (es : Entries). members_of es c.args.name.now) (sym c.self.view_is) ∙ (named_is c.self.inside.members.entries c.args.name.now c.in-Some.named.now c.in-Some.ensures.value ∙ p.3.is) in
    record {
      before = before;
      lease = lease;
      behind = behind;
      member = record { is = is; owner_is = p.3.owner_is };
      until_is = omega (arith, told, c.if-end-before.true);
      after_is =
          ap members_of (unwritten c.self.inside.members.entries (c.get_mut.follows.lender c.in-Some.named.now).entries c.args.self.now c.args.name.now c.in-Some.named.now (c.get_mut.follows.holds c.in-Some.named.now).0 c.in-Some.ensures.value c.self.view_is)
          ∙ (at_same c.args.name.now (members_of c.args.self.now)
          ∙ ap (λ (ls : List Lease). at_name c.args.name.now ls (members_of c.args.self.now)) (is ∙ (λ i. before ++ record lease { end = sym told i } ∷ behind)));
    }

pub returns-then-end-before-clause-count : goal.returns-then-end-before-clause-count
returns-then-end-before-clause-count c = ap (λ (es : Entries). length (rows_of es)) (unwritten c.self.inside.members.entries (c.get_mut.follows.lender c.in-Some.named.now).entries c.args.self.now c.args.name.now c.in-Some.named.now (c.get_mut.follows.holds c.in-Some.named.now).0 c.in-Some.ensures.value c.self.view_is)

pub postpone-requires : goal.postpone-requires
postpone-requires c =
    let p = c.in-Some-place_of.ensures in
    let lease : Lease = p.1 in
    let told : c.end_at-before.result ≡ lease.end = c.end_at-before.ensures p.0 lease p.2 p.3.is p.4 in
    let other : (lease.end == c.args.end) ≡ false = ne_eqb lease.end c.args.end (λ same. omega (arith, told, same, c.if-end-before.false)) in
    let member : IsMember c.args.addr (members_of c.self.inside.members.entries c.args.name.now) p.0 lease p.2 = record { is = named_is c.self.inside.members.entries c.args.name.now c.in-Some.named.now c.in-Some.ensures.value ∙ p.3.is; owner_is = p.3.owner_is } in
    record {
      there =
          (λ i. in_set c.self.inside.ends (due (told i) c.args.name.now (sym p.3.owner_is i)))
          ∙ own_end c.self.inside.members.entries c.self.inside.ends c.args.name.now c.args.addr p.0 p.2 lease c.self.invariant member;
      absent =
          subst (λ (n : ℕ). in_set c.self.inside.ends (due c.args.end c.args.name.now n) ≡ false) p.3.owner_is
          (other_end c.self.inside.members.entries c.self.inside.ends c.args.name.now c.args.addr c.args.end p.0 p.2 lease c.self.invariant member other);
    }

pub invariant_of-self-in_err-postpone : goal.invariant_of-self-in_err-postpone
invariant_of-self-in_err-postpone c = subst (λ (ds : List Due). Agrees (c.get_mut.follows.lender c.in-Some.named.now).entries ds) (sym c.in_err-postpone.ensures.unchanged) (subst (λ (es : Entries). Agrees es c.self.inside.ends) (c.self.view_is ∙ sym (unwritten c.self.inside.members.entries (c.get_mut.follows.lender c.in-Some.named.now).entries c.args.self.now c.args.name.now c.in-Some.named.now (c.get_mut.follows.holds c.in-Some.named.now).0 c.in-Some.ensures.value c.self.view_is)) c.self.invariant)

pub returns-in_err-postpone-clause-unchanged : goal.returns-in_err-postpone-clause-unchanged
returns-in_err-postpone-clause-unchanged c = on_err c.from_residual.result _ (ap members_of (unwritten c.self.inside.members.entries (c.get_mut.follows.lender c.in-Some.named.now).entries c.args.self.now c.args.name.now c.in-Some.named.now (c.get_mut.follows.holds c.in-Some.named.now).0 c.in-Some.ensures.value c.self.view_is))

pub returns-in_err-postpone-clause-count : goal.returns-in_err-postpone-clause-count
returns-in_err-postpone-clause-count c = ap (λ (es : Entries). length (rows_of es)) (unwritten c.self.inside.members.entries (c.get_mut.follows.lender c.in-Some.named.now).entries c.args.self.now c.args.name.now c.in-Some.named.now (c.get_mut.follows.holds c.in-Some.named.now).0 c.in-Some.ensures.value c.self.view_is)

pub invariant_of-self-2 : goal.invariant_of-self-2
invariant_of-self-2 c =
    let es = c.self.inside.members.entries in
    let ds = c.self.inside.ends in
    let name = c.args.name.now in
    let p = c.in-Some-place_of.ensures in
    let lease : Lease = p.1 in
    let told : c.end_at-before.result ≡ lease.end = c.end_at-before.ensures p.0 lease p.2 p.3.is p.4 in
    let written : c.set_end.new.self ≡ p.0 ++ record lease { end = c.args.end } ∷ p.2 = c.set_end.ensures p.0 lease p.2 p.3.is p.4 in
    let held = c.get_mut.follows.holds c.set_end.new.self in
    renews es (c.get_mut.follows.lender c.set_end.new.self).entries ds c.postpone.new.self name c.args.addr c.args.end p.0 p.2 lease c.self.invariant held.4 c.in_ok-postpone.ensures.distinct
    (record { is = named_is c.self.inside.members.entries c.args.name.now c.in-Some.named.now c.in-Some.ensures.value ∙ p.3.is; owner_is = p.3.owner_is })
    (λ same. omega (arith, told, same, c.if-end-before.false))
    (λ q. (held.3 (ap is_some (sym c.in-Some.ensures.value))).0 q ∙ ap (λ (ls : List Lease). cond (same_name name q) (Some ls) (lookup (same_name q) es)) written)
    (λ d. c.in_ok-postpone.ensures.found d ∙ (λ i. cond (is_due (due (told i) name (sym p.3.owner_is i)) d) false (cond (is_due (due c.args.end name (sym p.3.owner_is i)) d) true (in_set ds d))))

pub returns-clause-renewed : goal.returns-clause-renewed
returns-clause-renewed c =
    let es = c.self.inside.members.entries in
    let name = c.args.name.now in
    let p = c.in-Some-place_of.ensures in
    let lease : Lease = p.1 in
    let told : c.end_at-before.result ≡ lease.end = c.end_at-before.ensures p.0 lease p.2 p.3.is p.4 in
    let new : List Lease = p.0 ++ record lease { end = c.args.end } ∷ p.2 in
    let written : c.set_end.new.self ≡ new = c.set_end.ensures p.0 lease p.2 p.3.is p.4 in
    let held = c.get_mut.follows.holds c.set_end.new.self in
    record {
      before = p.0;
      lease = lease;
      behind = p.2;
      member = record { is = ap (λ (fs : Entries). members_of fs name) (sym c.self.view_is) ∙ (named_is c.self.inside.members.entries c.args.name.now c.in-Some.named.now c.in-Some.ensures.value ∙ p.3.is); owner_is = p.3.owner_is };
      until_is = omega (arith, told, c.if-end-before.false);
      after_is =
          members_at es (c.get_mut.follows.lender c.set_end.new.self).entries name (Some new)
          (λ q. (held.3 (ap is_some (sym c.in-Some.ensures.value))).0 q ∙ ap (λ (ls : List Lease). cond (same_name name q) (Some ls) (lookup (same_name q) es)) written)
          ∙ ap (λ (fs : Entries). at_name name new (members_of fs)) c.self.view_is;
    }

pub returns-clause-count : goal.returns-clause-count
returns-clause-count c =
    omega (arith, c.in_ok-postpone.ensures.count, counted (c.get_mut.follows.lender c.set_end.new.self).entries c.postpone.new.self (invariant_of-self-2 c), counted c.self.inside.members.entries c.self.inside.ends c.self.invariant, ap (λ (es : Entries). length (rows_of es)) c.self.view_is)
