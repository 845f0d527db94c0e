use Rattle.std.proofs.Common.{◌≡◌, Option, Some, None, sym}
use Rattle.std.specs.Prelude.{IfSome, option_copied}
use denote.Ref.{Bor}
use Rattle.nbt_front.specs.FixedNames.{FixedValue, fixed_of}
use Rattle.nbt_front.proofs.names.FixedNames.get.Goals as goal

copied_some : (found : Option (Bor FixedValue)) (o : Option FixedValue) → option_copied found ≡ o → IfSome found (λ x. o ≡ Some x.now)
copied_some None o e = tt
copied_some (Some x) o e = sym e

pub returns-clause-found : goal.returns-clause-found
returns-clause-found c = copied_some c.get.result (fixed_of c.args.self.now c.args.name.now) (rw (← c.self.view_is) c.get.ensures.value)
