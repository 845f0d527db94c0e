use Rattle.std.proofs.Common.{◌≡◌, ◌+◌, ◌++◌, ℕ, List, drop}
use Rattle.std.specs.String.{string_bytes}
use Rattle.nbt_text.specs.Texts.{texts}
use Rattle.nbt_sim.proofs.Playing.{Continues}
use Rattle.nbt_sim.proofs.script.play_lines.Given as goal

abbrev pub invariant-lines : goal.invariant-lines
invariant-lines l = (text : List ℕ) × (string_bytes l.out ≡ string_bytes l.fn.out ++ text) × Continues l.fn.world (l.index + 1) l.world (texts (drop l.index l.lines)) (texts l.lines) text
