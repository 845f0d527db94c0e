use Rattle.std.proofs.lemmas.Result.{err_from_is_err_and}
use Rattle.nbt_asking.specs.Flags.{fails, receives}
use Rattle.nbt_asking.proofs.flags.FlagsPortPort.receive.Goals as goal

pub returns-in_err-from-clause-does : goal.returns-in_err-from-clause-does
returns-in_err-from-clause-does g c = let p = err_from_is_err_and c.from_residual.result c.from_residual.ensures.1 in rw (p.1, ← c.self.view_is) (fails c.receive.new.self c.in_err-from.ensures.does)

pub returns-clause-does : goal.returns-clause-does
returns-clause-does g c =
    rw (← c.self.view_is, c.flags_of-self-inside.ensures, c.as_slice.ensures.value) (receives c.in_ok-from.from c.receive.new.octets.items c.receive.new.self c.in_ok-from.ensures.does)
