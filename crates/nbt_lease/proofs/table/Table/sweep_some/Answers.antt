use Rattle.std.proofs.Common.{◌≡◌, ℕ, length, sym, ap, subst, ◌∙◌, arith}
use Rattle.nbt_lease.proofs.Common.{filter, NameValue, TableValue, is_live, leases_at, IsSound, members_of, rows_of, AreLive}
use Rattle.nbt_lease.proofs.Sound.{sound_later}
use Rattle.nbt_lease.proofs.Rows.{same_leases}
use Rattle.nbt_lease.proofs.Flat.{leases_are, all_counted}
use Rattle.nbt_lease.proofs.table.Table.sweep_some.Goals as goal

pub returns-clause-leases : goal.returns-clause-leases
returns-clause-leases c =
    let old = c.self.inside.index in
    let new = c.drop_some.new.index in
    same_leases (leases_at c.args.now (rows_of new)) (leases_at c.args.now (rows_of old))
    (λ q. leases_are c.args.now new q c.drop_some.ensures.names
    ∙ (subst (λ (m : ℕ). filter (is_live m) (members_of new q) ≡ filter (is_live m) (members_of old q)) c.get.ensures.value (c.drop_some.ensures.leases q)
    ∙ sym (leases_are c.args.now old q c.self.invariant.0)))
    ∙ ap (λ (v : TableValue). leases_at c.args.now v.rows) c.self.view_is

pub returns-clause-bound : goal.returns-clause-bound
returns-clause-bound c = omega (arith, c.drop_some.ensures.bound, ap (λ (v : TableValue). length v.rows) c.self.view_is)

pub returns-clause-over : goal.returns-clause-over
returns-clause-over c few =
    all_counted c.args.now c.drop_some.new.index c.drop_some.ensures.names
    (subst (λ (m : ℕ). (q : NameValue) → AreLive m (members_of c.drop_some.new.index q)) c.get.ensures.value
    (c.drop_some.ensures.over (omega (arith, few, ap (λ (v : TableValue). length v.rows) c.self.view_is))))

pub returns-clause-sound : goal.returns-clause-sound
returns-clause-sound c =
    let t = c.args.self.now in
    subst (λ (v : TableValue). IsSound v.config c.args.now (leases_at c.args.now (rows_of c.drop_some.new.index))) (sym c.self.view_is)
    (subst (IsSound t.config c.args.now) (sym (returns-clause-leases c))
    (sound_later t.config t.last c.args.now t.rows c.requires (subst (λ (v : TableValue). IsSound v.config v.last (leases_at v.last v.rows)) c.self.view_is c.self.invariant.1)))

pub invariant_of-self : goal.invariant_of-self
invariant_of-self c = (c.drop_some.ensures.names, returns-clause-sound c, omega (arith, c.self.invariant.2, c.drop_some.ensures.fewer))
