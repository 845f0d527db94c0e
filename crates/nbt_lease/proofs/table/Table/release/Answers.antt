use Rattle.std.proofs.Common.{ℕ, sym, ap, subst, arith}
use Rattle.nbt_lease.proofs.Common.{TableValue, Leases, leases_at, IsSound, Releases, living, rows_of}
use Rattle.nbt_lease.proofs.Sound.{sound_later, sound_released}
use Rattle.nbt_lease.proofs.Living.{living_rows}
use Rattle.nbt_lease.proofs.Placing.{holds_live, nothing_released}
use Rattle.nbt_lease.proofs.table.Table.release.Goals as goal

pub returns-clause-rule : goal.returns-clause-rule
returns-clause-rule c =
    let t = c.args.self.now in
    let new = c.end_lease.new.index in
    let rows_are = ap (λ (v : TableValue). v.rows) c.self.view_is in
    let limit = ap (λ (v : TableValue). v.config.rows) c.self.view_is in
    let holds = holds_live t c.get-ms.result c.self.inside.index c.drop_some.new.index c.self.invariant.0 c.drop_some.ensures.names rows_are (omega (arith, c.self.invariant.2, limit)) c.drop_some.ensures.leases c.drop_some.ensures.over in
    subst (λ (f : Leases). Releases t c.args.now c.args.name.now c.args.addr c.end_lease.result f) (sym (living_rows c.args.now new c.end_lease.ensures.names))
    (subst (λ (m : ℕ). Releases t m c.args.name.now c.args.addr c.end_lease.result (living m new)) c.get-ms.ensures.value (c.end_lease.ensures.rule t holds))

pub returns-clause-unchanged : goal.returns-clause-unchanged
returns-clause-unchanged c = nothing_released c.args.self.now c.args.now c.args.name.now c.args.addr c.end_lease.result (leases_at c.args.now (rows_of c.end_lease.new.index)) (returns-clause-rule c)

pub returns-clause-sound : goal.returns-clause-sound
returns-clause-sound c =
    let t = c.args.self.now in
    subst (λ (v : TableValue). IsSound v.config c.args.now (leases_at c.args.now (rows_of c.end_lease.new.index))) (sym c.self.view_is)
    (sound_released t c.args.now c.args.name.now c.args.addr c.end_lease.result (leases_at c.args.now (rows_of c.end_lease.new.index))
    (sound_later t.config t.last c.args.now t.rows c.requires (subst (λ (v : TableValue). IsSound v.config v.last (leases_at v.last v.rows)) c.self.view_is c.self.invariant.1)) (returns-clause-rule c))

pub invariant_of-self : goal.invariant_of-self
invariant_of-self c = (c.end_lease.ensures.names, returns-clause-sound c, omega (arith, c.self.invariant.2, c.drop_some.ensures.fewer, c.end_lease.ensures.count))
