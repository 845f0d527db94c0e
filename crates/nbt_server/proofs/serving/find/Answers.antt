use Rattle.std.proofs.Common.{ap, refl, subst, arith}
use Rattle.nbt_server.proofs.Common.{entries_most, ConfigValue, leases_at, latest_end, IsLeastEnd}
use Rattle.nbt_server.proofs.Rules.{entries_fit, entries_short, ends_in_time, does_find, does_find_none}
use Rattle.nbt_server.proofs.serving.find.Goals as goal

pub returns-in_default-clause-does : goal.returns-in_default-clause-does
returns-in_default-clause-does c =
    let after = leases_at c.args.now c.sweep_some.new.self.rows in
    rw c.to_name-name.ensures (λ ip. does_find_none c.args.table.now c.args.now ip c.args.id c.args.name after c.sweep_some.ensures.leases _ c.write.new.out.items (subst (IsLeastEnd (after c.args.name)) c.in_default.is (rw c.to_name-name.ensures at c.list-listed.ensures.end)) refl
    (rw (c.lend.ensures, c.to_name-name.ensures) at c.write.ensures))

pub seconds_left-requires : goal.seconds_left-requires
seconds_left-requires c =
    let table = c.sweep_some.new.self in
    let leases = leases_at c.args.now table.rows c.to_name-name.result in
    let soon = ends_in_time leases (latest_end table.config c.args.now) c.in-Some.end (subst (IsLeastEnd leases) c.in-Some.is c.list-listed.ensures.end) c.list-listed.ensures.sound in
    let longest = c.requires.limits.longest in
    omega (arith, ap (λ (config : ConfigValue). config.longest) c.sweep_some.ensures.config)

pub write-requires-2-clause-fits : goal.write-requires-2-clause-fits
write-requires-2-clause-fits c =
    let leases = leases_at c.args.now c.sweep_some.new.self.rows c.to_name-name.result in
    rw (c.as_slice.ensures.value, c.list-listed.ensures.entries)
    (entries_fit (entries_most c.to_name-name.result) leases c.in-Some.end c.list-listed.ensures.room c.list-listed.ensures.sound.most (subst (IsLeastEnd leases) c.in-Some.is c.list-listed.ensures.end))

pub write-requires-2-clause-row_count : goal.write-requires-2-clause-row_count
write-requires-2-clause-row_count c =
    rw (c.lend-2.ensures, c.as_slice.ensures.value, c.list-listed.ensures.entries) (entries_short (entries_most c.to_name-name.result) (leases_at c.args.now c.sweep_some.new.self.rows c.to_name-name.result))

pub returns-clause-does : goal.returns-clause-does
returns-clause-does c =
    let after = leases_at c.args.now c.sweep_some.new.self.rows in
    rw c.to_name-name.ensures (λ ip. does_find c.args.table.now c.args.now ip c.args.id c.args.name after c.sweep_some.ensures.leases _ c.write-2.new.out.items c.in-Some.end (subst (IsLeastEnd (after c.args.name)) c.in-Some.is (rw c.to_name-name.ensures at c.list-listed.ensures.end)) refl
    (rw (c.lend-2.ensures, c.seconds_left.ensures, c.as_slice.ensures.value, c.list-listed.ensures.entries, c.list-listed.ensures.cut, c.to_name-name.ensures) at c.write-2.ensures))
