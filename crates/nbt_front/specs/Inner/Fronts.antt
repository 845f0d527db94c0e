-- Which front is at work (private fields alone).
use Rattle.std.specs.Prelude.{Option, Some, None}
use Rattle.nbt_front.specs.Deciding.{FrontValue}

-- the later one, if there is one
abbrev pub latest : FrontValue → Option FrontValue → FrontValue
latest first None = first
latest first (Some later) = later
