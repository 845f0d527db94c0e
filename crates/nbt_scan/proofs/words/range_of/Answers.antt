use Rattle.std.proofs.Common.{ℕ, sym, subst, arith}
use Rattle.nbt_scan.specs.Words.{SpellsIp, SpellsLast}
use Rattle.nbt_scan.proofs.Spelling.{one_ip, one_last}
use Rattle.nbt_scan.proofs.words.range_of.Goals as goal

pub returns-in_default : goal.returns-in_default
returns-in_default c = λ span is. c.in_default.ensures.none span.first is.first_is

pub returns-in_default-last_of : goal.returns-in_default-last_of
returns-in_default-last_of c = λ span is.
    let same = one_ip c.args.front.now span.first c.in-Some.first is.first_is c.in-Some.ensures.found in
    c.in_default-last_of.ensures.none span.last (subst (λ (n : ℕ). SpellsLast n c.args.back.now span.last) same is.last_is)

pub returns-in-None : goal.returns-in-None
returns-in-None c = λ span is.
    let same = one_ip c.args.front.now span.first c.in-Some.first is.first_is c.in-Some.ensures.found in
    let last = one_last c.in-Some.first c.args.back.now span.last c.in-Some-last_of.last (subst (λ (n : ℕ). SpellsLast n c.args.back.now span.last) same is.last_is) c.in-Some-last_of.ensures.found in
    omega (arith, same, last, span.in_order, c.in-None.ensures.none)

pub returns-in-Some-ordered : goal.returns-in-Some-ordered
returns-in-Some-ordered c =
    let e = c.in-Some-ordered.ensures.found in
    record {
      first_is = subst (λ (n : ℕ). SpellsIp c.args.front.now n) (sym e.0) c.in-Some.ensures.found;
      last_is = rw (e.0, e.1) c.in-Some-last_of.ensures.found;
    }
