use Rattle.nbt_front.specs.Files.{spells, no_name, star, no_kind, no_addr, not_of_one}
use Rattle.nbt_front.proofs.Rulings.{denied}
use Rattle.nbt_front.proofs.line.line_in.Goals as goal

pub returns-in-Err-clause-err : goal.returns-in-Err-clause-err
returns-in-Err-clause-err c = no_name c.args.name.now c.args.kind.now c.args.addr.now c.in-Err.fault c.in-Err.ensures.fault

pub returns-then-is_star-clause-err : goal.returns-then-is_star-clause-err
returns-then-is_star-clause-err c = star c.args.name.now c.args.kind.now c.args.addr.now c.in-Ok.name c.in-Ok.ensures.name (c.is_star.ensures.0 c.if-is_star.true)

pub returns-in_default-clause-err : goal.returns-in_default-clause-err
returns-in_default-clause-err c = no_kind c.args.name.now c.args.kind.now c.args.addr.now c.in-Ok.name (c.in-Ok.ensures.name, denied c.is_star.result c.is_star.ensures.1 c.if-is_star.false) c.in_default.ensures.none

pub returns-in_default-ip_in-clause-err : goal.returns-in_default-ip_in-clause-err
returns-in_default-ip_in-clause-err c =
    no_addr c.args.name.now c.args.kind.now c.args.addr.now c.in-Ok.name c.in-Some.kind (c.in-Ok.ensures.name, denied c.is_star.result c.is_star.ensures.1 c.if-is_star.false) c.in-Some.ensures.found c.in_default-ip_in.ensures.none

pub returns-then-not-is_of_one-clause-err : goal.returns-then-not-is_of_one-clause-err
returns-then-not-is_of_one-clause-err c =
    not_of_one c.args.name.now c.args.kind.now c.args.addr.now c.in-Ok.name c.in-Some.kind c.in-Some-ip_in.addr (c.in-Ok.ensures.name, denied c.is_star.result c.is_star.ensures.1 c.if-is_star.false) c.in-Some.ensures.found
    c.in-Some-ip_in.ensures.found (denied c.is_of_one.result c.is_of_one.ensures.1 c.if-not-is_of_one.true)

pub returns-clause-ok : goal.returns-clause-ok
returns-clause-ok c =
    spells c.args.name.now c.args.kind.now c.args.addr.now (record { name = c.in-Ok.name; kind = c.in-Some.kind; addr = c.in-Some-ip_in.addr })
    (c.in-Ok.ensures.name, denied c.is_star.result c.is_star.ensures.1 c.if-is_star.false) c.in-Some.ensures.found (c.in-Some-ip_in.ensures.found, c.is_of_one.ensures.0 c.if-not-is_of_one.false)
