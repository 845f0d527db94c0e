use Rattle.std.proofs.Common.{Some, refl, sym, ap, ◌∙◌}
use Rattle.nbt_name.specs.declared.addr.Addr.{Addr}
use Rattle.nbt_world.proofs.Finding.{addr_same, not_found, found_at}
use Rattle.nbt_world.proofs.ends.Ends.find.Goals as goal

pub returns-then-eq-clause-found : goal.returns-then-eq-clause-found
returns-then-eq-clause-found c = ap (λ (a : Addr). Some a) (addr_same c.args.self.now.server_addr c.args.addr (sym c.eq.ensures ∙ c.if-eq.true))

pub returns-in_err-place_of-clause-none : goal.returns-in_err-place_of-clause-none
returns-in_err-place_of-clause-none c = λ none. not_found c.args.self.now c.as_slice.result.now c.args.addr (sym c.eq.ensures ∙ c.if-eq.false) c.as_slice.ensures.value (c.in_err-place_of.ensures.none refl)

pub returns-clause-found : goal.returns-clause-found
returns-clause-found c = found_at c.args.self.now c.as_slice.result.now c.args.addr c.in_ok-place_of.field-0 c.as_slice.ensures.value c.in_ok-place_of.ensures.found
