use Rattle.std.proofs.Common.{◌≡◌, ◌+◌, ◌*◌, ℕ, OnErr, sym, ap, subst, ◌∙◌, arith}
use Rattle.nbt_lease.proofs.Common.{granted, TableValue, Leases, leases_at, IsSound, asked, Grants, living, rows_of, Places}
use Rattle.nbt_lease.proofs.Sound.{sound_later}
use Rattle.nbt_lease.proofs.Counts.{live_at_most}
use Rattle.nbt_lease.proofs.Living.{living_rows}
use Rattle.nbt_lease.proofs.Placing.{holds_live, sound_placed}
use Rattle.nbt_lease.proofs.table.Table.grant.Goals as goal

seconds_are : (c : goal.After-renew_or_begin) → c.granted-seconds.result ≡ granted c.args.self.now.config.longest c.args.ttl
seconds_are c = c.granted-seconds.ensures.value ∙ ap (λ (v : TableValue). granted v.config.longest c.args.ttl) c.self.view_is

placed : (c : goal.After-renew_or_begin) → Places c.args.self.now c.args.now c.args.name.now (asked c.args.addr c.args.kind c.args.ttl) c.renew_or_begin.result (living c.args.now c.renew_or_begin.new.index)
placed c =
    let t = c.args.self.now in
    let a = asked c.args.addr c.args.kind c.args.ttl in
    let ms = c.get-ms.result in
    let old = c.self.inside.index in
    let left = c.drop_some.new.index in
    let rows_are = ap (λ (v : TableValue). v.rows) c.self.view_is in
    let limit = ap (λ (v : TableValue). v.config.rows) c.self.view_is in
    let seconds : c.from.result ≡ granted t.config.longest c.args.ttl = c.from.ensures ∙ seconds_are c in
    let holds = holds_live t ms old left c.self.invariant.0 c.drop_some.ensures.names rows_are (omega (arith, c.self.invariant.2, limit)) c.drop_some.ensures.leases c.drop_some.ensures.over in
    subst (λ (m : ℕ). Places t m c.args.name.now a c.renew_or_begin.result (living m c.renew_or_begin.new.index)) c.get-ms.ensures.value
    (c.renew_or_begin.ensures.rule t a holds (sym limit ∙ sym c.rows.ensures.value) (λ i. record { addr = c.args.addr; kind = c.args.kind; end = ms + 1000 * seconds i }) (seconds_are c))

live_rows : (c : goal.After-renew_or_begin) → leases_at c.args.now (rows_of c.renew_or_begin.new.index) ≡ living c.args.now c.renew_or_begin.new.index
live_rows c = living_rows c.args.now c.renew_or_begin.new.index c.renew_or_begin.ensures.names

pub returns-clause-rule : goal.returns-clause-rule
returns-clause-rule c other =
    subst (λ (f : Leases). Grants c.args.self.now c.args.now c.args.name.now (asked c.args.addr c.args.kind c.args.ttl) c.renew_or_begin.result f) (sym (live_rows c)) ((placed c).rule other)

pub returns-clause-memory : goal.returns-clause-memory
returns-clause-memory c none = (placed c).memory none

pub returns-clause-refused : goal.returns-clause-refused
returns-clause-refused c = subst (λ (f : Leases). OnErr c.renew_or_begin.result (f ≡ leases_at c.args.now c.args.self.now.rows)) (sym (live_rows c)) (placed c).refused

pub returns-clause-room : goal.returns-clause-room
returns-clause-room c = omega (arith, c.renew_or_begin.ensures.fits, c.rows.ensures.value, live_at_most c.args.now (rows_of c.renew_or_begin.new.index), ap (λ (v : TableValue). v.config.rows) c.self.view_is)

pub returns-clause-sound : goal.returns-clause-sound
returns-clause-sound c =
    let t = c.args.self.now in
    subst (λ (v : TableValue). IsSound v.config c.args.now (leases_at c.args.now (rows_of c.renew_or_begin.new.index))) (sym c.self.view_is)
    (subst (IsSound t.config c.args.now) (sym (live_rows c))
    (sound_placed t c.args.now c.args.name.now (asked c.args.addr c.args.kind c.args.ttl) c.renew_or_begin.result (living c.args.now c.renew_or_begin.new.index) (placed c)
    (sound_later t.config t.last c.args.now t.rows c.requires (subst (λ (v : TableValue). IsSound v.config v.last (leases_at v.last v.rows)) c.self.view_is c.self.invariant.1))))

pub invariant_of-self : goal.invariant_of-self
invariant_of-self c = (c.renew_or_begin.ensures.names, returns-clause-sound c, omega (arith, c.renew_or_begin.ensures.fits, c.rows.ensures.value, ap (λ (v : TableValue). v.config.rows) c.self.view_is))

pub renew_or_begin-requires-clause-fits : goal.renew_or_begin-requires-clause-fits
renew_or_begin-requires-clause-fits c = omega (arith, c.self.invariant.2, c.drop_some.ensures.fewer, c.rows.ensures.value)

pub renew_or_begin-requires-clause-lives : goal.renew_or_begin-requires-clause-lives
renew_or_begin-requires-clause-lives c = omega (arith, c.granted-seconds.ensures.bounds.0, c.from.ensures)
