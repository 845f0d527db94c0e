-- The numbers of faults and of reasons (our profile).
use Rattle.std.specs.Prelude.{ℕ}
use Rattle.nbt_store.specs.declared.fault.Fault.{Fault}
use Rattle.nbt_store.specs.declared.fault.Fault.TheVariants as faults
use Rattle.nbt_store.specs.declared.silence.Silence.{Silence}
use Rattle.nbt_store.specs.declared.silence.Silence.TheVariants as reasons

abbrev pub fault_number : Fault → ℕ
fault_number faults.Empty = 1
fault_number faults.Version = 2
fault_number (faults.Damaged line) = 3

abbrev pub silence_number : Silence → ℕ
silence_number reasons.OtherLife = 1
silence_number reasons.OtherLongest = 2
silence_number reasons.OtherRows = 3
silence_number reasons.BadTimes = 4
silence_number reasons.OtherBoot = 5
silence_number reasons.Apart = 6
silence_number reasons.Older = 7
