use Rattle.std.proofs.Common.{◌≡◌, List, ◌∷◌, subst, sym}
use Rattle.std.proofs.lemmas.Bool.{false≢true}
use Rattle.nbt_name.specs.declared.addr.Addr.{Addr}
use Rattle.nbt_world.specs.World.{AreApart}
use Rattle.nbt_world.proofs.Apart.{apart_more, not_apart}
use Rattle.nbt_world.proofs.ends.are_apart.Goals as goal

pub returns-then-stands_in : goal.returns-then-stands_in
returns-then-stands_in c =
    let rest : c.loop-first.rest.now ≡ c.in-Some.first.now ∷ c.in-Some.others.now = c.in-Some.ensures.cases.0 in (
      λ t. absurd (false≢true t),
      λ apart. absurd (not_apart c.in-Some.first.now c.in-Some.others.now (c.stands_in.ensures.0 c.if-stands_in.true) (subst (λ (xs : List Addr). AreApart xs) rest (c.loop-first.invariant.1 apart))),
    )

pub loop-first-preserved : goal.loop-first-preserved
loop-first-preserved c =
    let rest : c.loop-first.rest.now ≡ c.in-Some.first.now ∷ c.in-Some.others.now = c.in-Some.ensures.cases.0 in
    let more = apart_more c.in-Some.first.now c.in-Some.others.now (λ s. false≢true (c.if-stands_in.ensures.1 s)) in (
      λ apart. c.loop-first.invariant.0 (subst (λ (xs : List Addr). AreApart xs) (sym rest) (more.1 apart)),
      λ apart. more.0 (subst (λ (xs : List Addr). AreApart xs) rest (c.loop-first.invariant.1 apart)),
    )
