use Rattle.std.proofs.Common.{refl, arith}
use Rattle.nbt_lease.proofs.Owned.{first_name, no_name, all_found}
use Rattle.nbt_lease.proofs.Common.{rows_of}
use Rattle.nbt_lease.specs.Lease.{count_of}
use Rattle.nbt_lease.proofs.index.reaches.Goals as goal

pub returns-then-left-found : goal.returns-then-left-found
returns-then-left-found c =
    let more = first_name c.args.now c.args.addr c.names.rest c.in-Some.others _ c.in-Some.named.now c.count_of-found.result c.in-Some.ensures.parts c.count_of-found.ensures in
    (λ found. omega (arith, more, c.names.invariant, c.if-left-found.true), λ within. refl)

pub names-preserved : goal.names-preserved
names-preserved c =
    let more = first_name c.args.now c.args.addr c.names.rest c.in-Some.others _ c.in-Some.named.now c.count_of-found.result c.in-Some.ensures.parts c.count_of-found.ensures in
    omega (arith, more, c.names.invariant, c.if-left-found.false)

pub returns : goal.returns
returns c =
    let none = no_name c.args.now c.args.addr c.names.rest c.in_default.ensures.found.1 in
    all_found c.names.left c.args.count (count_of c.args.now c.args.addr (rows_of c.args.members.now.entries)) (omega (arith, none, c.names.invariant))
