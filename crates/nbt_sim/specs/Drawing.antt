-- Where a script that is drawn ends (our profile).
use Rattle.std.specs.Prelude.{ℕ, List, ◌++◌, Option, Some, None, true, false, codes}
use Rattle.nbt_text.specs.Lines.{verdict_line}
use Rattle.nbt_sim.specs.Script.{Plays}

-- No line ends it, or the line of this number does, just where it does so in a script whose lines are printed.
abbrev pub EndsAt : List (List ℕ) → Option ℕ → Type 0
EndsAt script None = (text : List ℕ) × Plays 1 None script true text
EndsAt script (Some number) = (text : List ℕ) × Plays 1 None script false (text ++ verdict_line number (codes "unreadable"))
