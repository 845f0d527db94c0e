use Rattle.std.proofs.Common.{◌++◌, ℕ, List, None, drop}
use Rattle.nbt_text.specs.Texts.{texts}
use Rattle.nbt_port.specs.OwnAddresses.{Adds}
use Rattle.nbt_port.proofs.machine_addresses.own_addresses.Given as goal

-- what the lines that are left add comes behind what is there
abbrev pub invariant-loop-line : goal.invariant-loop-line
invariant-loop-line l = (more : List ℕ) → Adds l.leaf (texts (drop l.line-index l.line-items)) more → Adds None (texts l.line-items) (l.own.items ++ more)
