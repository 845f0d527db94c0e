use Rattle.std.proofs.Common.{◌+◌, ℕ, List, None, drop}
use Rattle.nbt_text.specs.Texts.{texts}
use Rattle.nbt_sim.proofs.Playing.{Continues}
use Rattle.nbt_sim.proofs.picture.drawing.watch_lines.Given as goal

abbrev pub invariant-lines : goal.invariant-lines
invariant-lines l = (text : List ℕ) × Continues None (l.index + 1) l.world (texts (drop l.index l.lines)) (texts l.lines) text
