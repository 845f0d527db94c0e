use Rattle.std.proofs.Common.{sym, ◌∙◌}
use Rattle.nbt_lease.proofs.Common.{both_ways, not-true, ne_eqb}
use Rattle.nbt_lease.proofs.Finding.{owner_asks}
use Rattle.nbt_lease.proofs.standing.Standing.allows.Goals as goal
use Rattle.nbt_lease.proofs.standing.Standing.allows.Goals.{then-self-eq1, else-self-eq1}

pub returns-then-not-self : goal.returns-then-not-self
returns-then-not-self c leases a found is_kind =
    elim c.if-self-eq1.branch [
      | then-self-eq1 w ↦
          let mixed = not-true c.args.self.now.group (sym w.value-is ∙ c.if-not-self.true) in
          owner_asks a leases c.args.self.now.own (sym found.members ∙ w.if-self-eq1.true) (λ all. both_ways c.args.self.now.group mixed (found.group.1 all)) (is_kind ∙ c.in-Unique.is) found.own found.none
      | else-self-eq1 w ↦ absurd (both_ways c.if-self-eq1.value (w.value-is ∙ ne_eqb c.args.self.now.members 1 w.if-self-eq1.false) c.if-not-self.true)
    ]
