use Rattle.std.proofs.Common.{ℕ, sym, ap, subst, ◌∙◌}
use Rattle.nbt_lease.proofs.Common.{filter, TableValue, is_live, leases_at, IsSound, members_of}
use Rattle.nbt_lease.proofs.Sound.{sound_later}
use Rattle.nbt_lease.proofs.Flat.{leases_are}
use Rattle.nbt_lease.proofs.table.Table.members.Goals as goal

pub returns-clause-members : goal.returns-clause-members
returns-clause-members c =
    c.live.ensures
    ∙ (ap (λ (n : ℕ). filter (is_live n) (members_of c.self.inside.index c.args.name.now)) c.get.ensures.value
    ∙ (sym (leases_are c.args.now c.self.inside.index c.args.name.now c.self.invariant.0) ∙ ap (λ (v : TableValue). leases_at c.args.now v.rows c.args.name.now) c.self.view_is))

pub returns-clause-sound : goal.returns-clause-sound
returns-clause-sound c =
    let t = c.args.self.now in
    sound_later t.config t.last c.args.now t.rows c.requires (subst (λ (v : TableValue). IsSound v.config v.last (leases_at v.last v.rows)) c.self.view_is c.self.invariant.1)
