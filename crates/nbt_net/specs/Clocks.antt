-- What the clock at a server's place reads, before a start over another boot and after it (our profile).
use Rattle.std.specs.Prelude.{ℕ, ◌+◌, max}
use Rattle.nbt_store.specs.declared.silence.Onward.{Onward}

-- a reading of the old clock, counted as much later as all times of the file
abbrev pub counted : Onward → (reading : ℕ) → ℕ
counted onward reading = reading + onward.shift

-- From the start on, where the old clock read OLD last and the new one reads NEW: the greater one. So it stands until the new clock is past
-- the old one.
abbrev pub place_reads : Onward → (old new : ℕ) → ℕ
place_reads onward old new = max (counted onward old) new
