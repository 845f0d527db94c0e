-- A reading of a machine's two clocks, each by itself.
use Rattle.std.proofs.Common.{ℕ, ap}
use Rattle.nbt_port.specs.PortCalls.{Chain}
use Rattle.nbt_host.specs.declared.sleeping.Clocks.{Clocks}
use Rattle.nbt_host.specs.declared.sleeping.Reading.{Reading}
use Rattle.nbt_host.specs.Ticks.{Tick, BothTell, ticks_of}
use Rattle.nbt_host.specs.Sleeping.{Reads}

-- both clocks beside one another
abbrev pub both : {C D : Type 0} → Clocks C D → C × D
both clocks = (clocks.steady, clocks.day)

pub reads_both : {C D : Type 0} (tells : C → ℕ → C → Type 0) (tells_day : D → ℕ → D → Type 0) (old new : Clocks C D) (reading : Reading)
    → Chain (λ (x : Clocks C D) (tick : Tick) (y : Clocks C D). BothTell tells tells_day (both x) tick (both y)) old (ticks_of reading) new → Reads tells tells_day old.steady old.day reading new.steady new.day
reads_both tells tells_day old new reading x =
    (both x.0, x.1, (both x.2.0, x.2.1, (both x.2.2.0, x.2.2.1, ap both x.2.2.2)))
