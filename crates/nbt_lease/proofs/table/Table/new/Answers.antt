use Rattle.std.proofs.Common.{length, sym, ap, subst, arith}
use Rattle.nbt_lease.proofs.Common.{IsDistinct, keys_of, same_name, leases_at, IsSound, Entries, rows_of}
use Rattle.nbt_lease.proofs.Sound.{none_sound}
use Rattle.nbt_lease.proofs.Agreeing.{none_distinct}
use Rattle.nbt_lease.proofs.table.Table.new.Goals as goal

pub returns-clause-empty : goal.returns-clause-empty
returns-clause-empty c = ap rows_of c.new.ensures

pub invariant_of-result : goal.invariant_of-result
invariant_of-result c = (
  subst (λ (es : Entries). IsDistinct same_name (keys_of es)) (sym c.new.ensures) (none_distinct same_name),
  subst (λ (es : Entries). IsSound c.args.config c.zero.result (leases_at c.zero.result (rows_of es))) (sym c.new.ensures) (none_sound c.args.config c.zero.result),
  omega (arith, ap (λ (es : Entries). length (rows_of es)) c.new.ensures),
)
