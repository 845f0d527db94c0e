use Rattle.std.proofs.Common.{arith, []}
use Rattle.nbt_name.specs.Scope.{IsScope}
use Rattle.nbt_name.specs.Wire.{IsName, name_of}
use Rattle.nbt_name.proofs.name.Name.without_scope.Goals as goal

pub invariant_of-result : goal.invariant_of-result
invariant_of-result c =
    let is : IsName (name_of c.args.octets.now []) = record {
      sixteen = c.told-octets;
      fits = omega arith;
      labels = IsScope.empty;
      octets_fit = c.fits-octets;
      scope_fits = λ k. omega arith;
    } in
    rw (← c.new.ensures) at is
