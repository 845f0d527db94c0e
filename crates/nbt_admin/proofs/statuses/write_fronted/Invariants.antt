use Rattle.std.proofs.Common.{◌≡◌, ◌++◌, true, drop}
use Rattle.nbt_admin.specs.Statuses.{fronted}
use Rattle.nbt_admin.proofs.statuses.write_fronted.Given as goal

abbrev pub invariant-loop-octet : goal.invariant-loop-octet
invariant-loop-octet l = l.out.items ++ fronted l.host l.begins (drop l.octet-index l.text) ≡ l.fn.out.items ++ fronted l.host true l.text
