use Rattle.std.proofs.Common.{◌≡◌, ℕ, length, sym, ap, subst, ◌∙◌, arith}
use Rattle.nbt_lease.proofs.Common.{filter, NameValue, TableValue, is_live, leases_at, IsSound, members_of, rows_of}
use Rattle.nbt_lease.proofs.Sound.{sound_later}
use Rattle.nbt_lease.proofs.Placing.{left_over}
use Rattle.nbt_lease.proofs.table.Table.sweep_counted.Goals as goal

pub returns-clause-leases : goal.returns-clause-leases
returns-clause-leases g c =
    (left_over c.args.now c.self.inside.index c.drop_expired.new.self c.self.invariant.0 c.drop_expired.ensures.names
    (subst (λ (m : ℕ). (q : NameValue) → members_of c.drop_expired.new.self q ≡ filter (is_live m) (members_of c.self.inside.index q)) c.get.ensures.value c.drop_expired.ensures.leases)).same
    ∙ ap (λ (v : TableValue). leases_at c.args.now v.rows) c.self.view_is

pub returns-clause-over : goal.returns-clause-over
returns-clause-over g c =
    (left_over c.args.now c.self.inside.index c.drop_expired.new.self c.self.invariant.0 c.drop_expired.ensures.names
    (subst (λ (m : ℕ). (q : NameValue) → members_of c.drop_expired.new.self q ≡ filter (is_live m) (members_of c.self.inside.index q)) c.get.ensures.value c.drop_expired.ensures.leases)).all

pub returns-clause-looks : goal.returns-clause-looks
returns-clause-looks g c = omega (arith, c.drop_expired.ensures.looks, ap (λ (v : TableValue). length v.rows) c.self.view_is)

pub returns-clause-sound : goal.returns-clause-sound
returns-clause-sound g c =
    let t = c.args.self.now in
    subst (λ (v : TableValue). IsSound v.config c.args.now (leases_at c.args.now (rows_of c.drop_expired.new.self))) (sym c.self.view_is)
    (subst (IsSound t.config c.args.now) (sym (returns-clause-leases g c))
    (sound_later t.config t.last c.args.now t.rows c.requires (subst (λ (v : TableValue). IsSound v.config v.last (leases_at v.last v.rows)) c.self.view_is c.self.invariant.1)))

pub invariant_of-self : goal.invariant_of-self
invariant_of-self g c = (c.drop_expired.ensures.names, returns-clause-sound g c, omega (arith, c.self.invariant.2, c.drop_expired.ensures.fewer))
