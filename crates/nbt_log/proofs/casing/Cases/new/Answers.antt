use Rattle.std.proofs.Common.{◌≡◌, [], sym, subst, arith, rules}
use Rattle.nbt_log.specs.Inner.Casing.{Cases, Knows, of_none, spelled}
use Rattle.nbt_log.proofs.casing.Cases.new.Goals as goal

pub returns : goal.returns
returns c =
    let empty : c.new.result.entries ≡ [] = search rules in
    λ now capitals. subst (λ (cases : Cases). Knows now [] capitals (spelled cases capitals)) (sym empty) (of_none (λ row there reads. absurd (omega (arith, there.1))))
