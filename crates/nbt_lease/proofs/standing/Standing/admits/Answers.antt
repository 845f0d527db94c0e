use Rattle.std.proofs.Common.{◌≡◌, ◌∙◌, ⊎_elim, arith}
use Rattle.nbt_lease.proofs.Common.{both_ways, eqb-true, eq-eqb, lt-ltb, ltb-true, Kind, Unique, Group}
use Rattle.nbt_lease.proofs.Cases.{kind_cases}
use Rattle.nbt_lease.proofs.Restored.{alone_may, owner_may_not, group_before, group_may}
use Rattle.nbt_lease.proofs.standing.Standing.admits.Goals as goal
use Rattle.nbt_lease.proofs.standing.Standing.admits.Goals.{then-self-via-then-self, then-self-via-else-self+then-not-self}

group_kind : (kind : Kind) → (kind ≡ Unique → ⊥) → kind ≡ Group
group_kind kind other = ⊎_elim (λ is. absurd (other is)) (λ is. is) (kind_cases kind)

pub returns-in-Unique : goal.returns-in-Unique
returns-in-Unique c leases lease found is_kind =
    let may = alone_may lease leases (is_kind ∙ c.in-Unique.is) in
    (λ none. may.1 (omega (arith, found.members, eqb-true c.args.self.now.members 0 none)), λ h. eq-eqb c.args.self.now.members 0 (omega (arith, found.members, may.0 h)))

pub returns-then-self : goal.returns-then-self
returns-then-self c leases lease found is_kind = (
  λ e. absurd cc,
  λ may. elim c.then-self.branch [
    | then-self-via-then-self w ↦ absurd (owner_may_not lease leases c.args.self.now.own found.own w.if-self.true may)
    | then-self-via-else-self+then-not-self w ↦ absurd (both_ways c.args.self.now.group w.if-not-self.true (found.group.1 (group_before leases lease (is_kind ∙ group_kind c.args.kind c.in_default.not-Unique) may.one_kind)))
  ],
)

pub returns : goal.returns
returns c leases lease found is_kind =
    let may = group_may lease leases (is_kind ∙ group_kind c.args.kind c.in_default.not-Unique) (found.group.0 c.if-not-self.false) (found.none c.if-self.false) in
    (λ less. may.1 (omega (arith, found.members, ltb-true c.args.self.now.members 1000 less)), λ h. lt-ltb c.args.self.now.members 1000 (omega (arith, found.members, may.0 h)))
