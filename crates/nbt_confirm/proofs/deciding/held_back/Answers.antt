use Rattle.std.proofs.Common.{◌≡◌, ℕ, refl, sym, subst, ◌∙◌}
use Rattle.nbt_lease.specs.Lease.{leases_at}
use Rattle.nbt_server.specs.declared.outcome.Claim.{Claim}
use Rattle.nbt_server.specs.Outcomes.{claim_in}
use Rattle.nbt_confirm.specs.Deciding.{IsLeasedBy}
use Rattle.nbt_confirm.proofs.Claimed.{one_refused, one_some}
use Rattle.nbt_confirm.proofs.Readings.{at_none}
use Rattle.nbt_confirm.proofs.deciding.held_back.Goals as goal
use Rattle.nbt_confirm.proofs.deciding.held_back.Goals.{then-not-is_claim-via-then-not-is_claim, then-not-is_claim-via-else-not-is_claim+then-not-is_leased_by}

pub returns-in_err-claim-clause-others : goal.returns-in_err-claim-clause-others
returns-in_err-claim-clause-others c = at_none c.from_residual.result (λ request held. c.in_err-claim.ensures.none (claim_in held.r) held.holder held.refused held.unique)

pub returns-in_err-asked-clause-others : goal.returns-in_err-asked-clause-others
returns-in_err-asked-clause-others c = at_none c.from_residual-in_err-asked.result (λ request held. let e = (c.in_err-asked.ensures.claims held.r).1 held.claims in absurd cc)

pub returns-then-not-is_claim-clause-others : goal.returns-then-not-is_claim-clause-others
returns-then-not-is_claim-clause-others c = λ request held.
    let same : c.in_ok-asked.asked ≡ held.r = one_some ((c.in_ok-asked.ensures.claims held.r).1 held.claims) in
    let both = one_refused c.in_ok-claim.claim.now (claim_in held.r) c.in_ok-claim.holder held.holder (sym c.in_ok-claim.ensures.some.0 ∙ held.refused) in
    elim c.then-not-is_claim.branch [
      | then-not-is_claim-via-then-not-is_claim w ↦
          let is = c.is_claim.ensures.1 (rw same both.0) in
          let not = w.if-not-is_claim.true in
          absurd cc
      | then-not-is_claim-via-else-not-is_claim+then-not-is_leased_by w ↦
          let leased = subst (λ (n : ℕ). IsLeasedBy n (leases_at c.args.now c.args.table.now.rows c.in_ok-claim.claim.now.name)) (sym both.1)
          (subst (λ (k : Claim). IsLeasedBy held.holder (leases_at c.args.now c.args.table.now.rows k.name)) (sym both.0) held.leased) in
          let is = w.is_leased_by.ensures.1 leased in
          let not = w.if-not-is_leased_by.true in
          absurd cc
    ]

pub returns-clause-held : goal.returns-clause-held
returns-clause-held c =
    let same : c.in_ok-claim.claim.now ≡ claim_in c.in_ok-asked.asked = c.is_claim.ensures.0 c.if-not-is_claim.false in
    record {
      r = c.in_ok-asked.asked;
      claims = (c.in_ok-asked.ensures.claims c.in_ok-asked.asked).0 refl;
      unique = rw same at c.in_ok-claim.ensures.some.1;
      holder = c.in_ok-claim.holder;
      refused = rw same at c.in_ok-claim.ensures.some.0;
      leased = subst (λ (k : Claim). IsLeasedBy c.in_ok-claim.holder (leases_at c.args.now c.args.table.now.rows k.name)) same (c.is_leased_by.ensures.0 c.if-not-is_leased_by.false);
      request_is = c.request_of.ensures;
    }
