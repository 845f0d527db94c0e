-- What `import` prints (our profile).
use Rattle.std.specs.Prelude.{ℕ, List}
use Rattle.nbt_front.specs.Files.{IsFile}
use Rattle.nbt_front.specs.FixedNames.{FixedNames}

-- a file of fixed names, as `nbns --fixed` reads it
abbrev pub Imports : (printed : List ℕ) → Type 0
Imports printed = (names : FixedNames) × IsFile printed names
