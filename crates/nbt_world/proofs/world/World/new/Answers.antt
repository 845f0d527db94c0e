use Rattle.std.proofs.Common.{◌≡◌, List, ◌∷◌, length, refl, sym, subst, arith}
use Rattle.std.proofs.lemmas.Bool.{eqb-false}
use Rattle.nbt_name.specs.declared.addr.Addr.{Addr}
use Rattle.nbt_world.specs.World.{AreApart, AreAddrs}
use Rattle.nbt_world.proofs.Apart.{fresh_kept, is_fresh}
use Rattle.nbt_world.proofs.world.World.new.Goals as goal

pub invariant_of-result : goal.invariant_of-result
invariant_of-result c =
    let whole : c.args.addrs.now ≡ c.in-Some.server_addr.now ∷ c.in-Some.others.now = c.in-Some.ensures.cases.0 in
    let some = eqb-false (length c.in-Some.others.now) 0 (sym c.if-is_empty.ensures) in
    let are : AreAddrs (c.in-Some.server_addr.now ∷ c.in-Some.others.now) = record {
      ends_at_least = omega arith;
      ends_at_most = omega arith;
      apart = subst (λ (xs : List Addr). AreApart xs) whole (c.if-not-are_apart.ensures.0 refl);
    } in
    rw (c.zero.ensures.clock, c.zero.ensures.readings, c.new.ensures, c.new-2.ensures.items, c.at_beginning.ensures) (fresh_kept c.args.config c.in-Some.server_addr.now c.in-Some.others.now are)

pub returns-clause-world : goal.returns-clause-world
returns-clause-world c =
    let whole : c.args.addrs.now ≡ c.in-Some.server_addr.now ∷ c.in-Some.others.now = c.in-Some.ensures.cases.0 in
    rw (c.zero.ensures.clock, c.zero.ensures.readings, c.new.ensures, c.new-2.ensures.items, c.at_beginning.ensures, whole) (is_fresh c.args.config c.in-Some.server_addr.now c.in-Some.others.now (omega arith))
