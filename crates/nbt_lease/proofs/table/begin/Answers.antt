use Rattle.std.proofs.Common.{[], ◌∷◌, ◌++◌, false, Ok, sym, subst, ◌∙◌, arith}
use Rattle.nbt_lease.proofs.Common.{Grant, TableFull, at_name, table_full, living, Places}
use Rattle.nbt_lease.proofs.Living.{same_living, begun_lives}
use Rattle.nbt_lease.proofs.Placing.{room_beside, refuses, runs_out, begins_lease}
use Rattle.nbt_lease.proofs.table.begin.Goals as goal

pub returns-then-count-most-clause-rule : goal.returns-then-count-most-clause-rule
returns-then-count-most-clause-rule c table a holds most_is lease_is seconds_is may =
    refuses table c.args.now c.args.name.now a TableFull (living c.args.now c.args.index.now) (λ e. cc) holds.leases
    (table_full may.allowed may.none may.room (holds.full (omega (arith, c.count.ensures, c.if-count-most.true, most_is))))

pub returns-in-Err-clause-rule : goal.returns-in-Err-clause-rule
returns-in-Err-clause-rule c table a holds most_is lease_is seconds_is may =
    let vacant = room_beside table c.args.now c.args.index.now c.requires.names holds (omega (arith, c.count.ensures, c.if-count-most.false, most_is)) in
    runs_out table c.args.now c.args.name.now a (living c.args.now c.begin.new.self) may.allowed may.none may.room vacant (same_living c.args.now c.args.index.now c.begin.new.self c.in-Err.ensures.unchanged ∙ holds.leases)

pub returns-clause-rule : goal.returns-clause-rule
returns-clause-rule c table a holds most_is lease_is seconds_is may =
    let vacant = room_beside table c.args.now c.args.index.now c.requires.names holds (omega (arith, c.count.ensures, c.if-count-most.false, most_is)) in
    subst (λ (g : Grant). Places table c.args.now c.args.name.now a (Ok g) (living c.args.now c.begin.new.self)) (λ i. record { seconds = sym seconds_is i; end = (sym lease_is i).end; renewed = false })
    (begins_lease table c.args.now c.args.name.now a (living c.args.now c.begin.new.self) may.allowed may.none may.room vacant
    (begun_lives c.args.now c.args.name.now c.args.lease c.args.index.now c.begin.new.self c.requires.lives c.in_default.ensures.begun
    ∙ (λ i. at_name c.args.name.now (holds.leases i c.args.name.now ++ lease_is i ∷ []) (holds.leases i))))
