use Rattle.std.proofs.Common.{ℕ, ◌<◌, get_or}
use Rattle.nbt_name.proofs.Common.{◌↔◌, IsTrue, IsLetter}
use Rattle.nbt_name.proofs.reader.are_letters.Given as goal

abbrev pub invariant-loop-octet : goal.invariant-loop-octet
invariant-loop-octet l = IsTrue l.all ↔ ((k : ℕ) → k < l.octet-index → IsLetter (get_or l.octets k 0))
