use Rattle.std.proofs.Common.{◌≡◌, ◌++◌, take}
use Rattle.std.specs.String.{string_bytes}
use Rattle.nbt_sim.specs.Script.{other_holders_text}
use Rattle.nbt_sim.proofs.printing.write_list.Given as goal

abbrev pub invariant-loop-holder : goal.invariant-loop-holder
invariant-loop-holder l = string_bytes l.out ≡ string_bytes l.initial.out ++ other_holders_text (take l.holder-index l.others)
