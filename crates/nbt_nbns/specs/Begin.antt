-- The line with which a name server begins (our profile).
use Rattle.std.specs.Prelude.{◌≡◌, ℕ, ◌+◌, ◌-◌, ◌==◌, max, nat_lt, if◌then◌else◌, List, [], ◌∷◌, ◌++◌, codes, Option, Some, None}
use Rattle.std.specs.Int.{div_ceil}
use Rattle.std.specs.Fmt.{decimal}
use Rattle.nbt_name.specs.declared.addr.Addr.{Addr}
use Rattle.nbt_text.specs.Address.{address_text}
use Rattle.nbt_text.specs.Lines.{newline}
use Rattle.nbt_lease.specs.Config.{milliseconds}
use Rattle.nbt_log.specs.Dates.{IsTimeText, second_at}
use Rattle.nbt_log.specs.declared.dates.Dates.{Dates}
use Rattle.nbt_store.specs.declared.fault.Fault.{Fault}
use Rattle.nbt_store.specs.declared.fault.Fault.TheVariants.{Empty, Version, Damaged}
use Rattle.nbt_store.specs.declared.silence.Silence.{Silence}
use Rattle.nbt_store.specs.declared.silence.Silence.TheVariants.{OtherLife, OtherLongest, OtherRows, BadTimes, OtherBoot, Apart, Older}
use Rattle.nbt_nbns.specs.declared.first_line.Manner.{Manner}
use Rattle.nbt_nbns.specs.declared.first_line.Manner.TheVariants as manner
use Rattle.nbt_store.specs.declared.resuming.Reason.{Reason}
use Rattle.nbt_store.specs.declared.resuming.Reason.TheVariants.{Nothing, File, Other, Full, Unsound, Over}

-- addresses, with a comma between two
abbrev pub more_addresses_text : List Addr → List ℕ
more_addresses_text [] = []
more_addresses_text (at ∷ more) = codes ", " ++ address_text at ++ more_addresses_text more

abbrev pub addresses_text : List Addr → List ℕ
addresses_text [] = []
addresses_text (at ∷ more) = address_text at ++ more_addresses_text more

-- why octets are no file of a store
abbrev pub fault_text : Fault → List ℕ
fault_text Empty = codes "nothing was kept"
fault_text Version = codes "another version"
fault_text (Damaged line) = codes "damaged at line " ++ decimal line

-- why a server is silent though leases are kept
abbrev pub silence_text : Silence → List ℕ
silence_text OtherLife = codes "another LIFE"
silence_text OtherLongest = codes "another LONGEST"
silence_text OtherRows = codes "another number of rows"
silence_text BadTimes = codes "times that no server keeps"
silence_text OtherBoot = codes "another boot"
silence_text Apart = codes "clocks that went apart"
silence_text Older = codes "kept by an older version"

-- why a server doesn't go on with what was kept
abbrev pub reason_text : Reason → List ℕ
reason_text Nothing = codes "nothing was kept"
reason_text (File fault) = fault_text fault
reason_text (Other silence) = silence_text silence
reason_text Full = codes "more leases than rows"
reason_text Unsound = codes "leases that no server grants"
reason_text Over = codes "the kept leases are over"

-- how many leases were kept
abbrev pub kept_text : (count : ℕ) → List ℕ
kept_text count = codes ", with " ++ decimal count ++ codes " " ++ (if count == 1 then codes "lease" else codes "leases") ++ codes " kept"

-- for how many seconds it is silent, and until when
abbrev pub IsSilence : (silent until : ℕ) → List ℕ → Type 0
IsSilence silent until text = (time : List ℕ) × IsTimeText until time × (text ≡ codes ", silent for " ++ decimal silent ++ codes " s until " ++ time)

abbrev pub IsManner : Manner → List ℕ → Type 0
IsManner (manner.Starts silent until) text = IsSilence silent until text
IsManner (manner.Speaks count) text = text ≡ kept_text count
IsManner (manner.Waits count silent until) text = (silence : List ℕ) × IsSilence silent until silence × (text ≡ kept_text count ++ silence)
IsManner (manner.Silent silent until reason) text = (silence : List ℕ) × IsSilence silent until silence × (text ≡ silence ++ codes ", since " ++ reason_text reason)

-- where it serves, and how it begins
abbrev pub IsBegin : (at : List Addr) → Manner → List ℕ → Type 0
IsBegin at manner line = (text : List ℕ) × IsManner manner text × (line ≡ codes "serving " ++ addresses_text at ++ text ++ newline)

-- what is said of a server without a state, which starts at the moment of the dates
abbrev pub manner_at_first : (longest : ℕ) → Dates → Manner
manner_at_first longest dates = manner.Starts longest (second_at dates (dates.moment + milliseconds longest))

-- when a server speaks that goes on: its silence is over, and it serves
abbrev pub speaks_at : (longest start serves : ℕ) → ℕ
speaks_at longest start serves = max (start + milliseconds longest) serves

-- What is said of a server that begins so, at the moment of the dates: for how long it is silent, if it is, with a part of a second counted whole, and why
-- it begins anew, if it does.
abbrev pub manner_of : (longest start serves : ℕ) → Dates → (count : ℕ) → Option Reason → Manner
manner_of longest start serves dates count (Some reason) = manner.Silent longest (second_at dates (start + milliseconds longest)) reason
manner_of longest start serves dates count None =
    if nat_lt dates.moment (speaks_at longest start serves)
    then manner.Waits count (div_ceil (speaks_at longest start serves - dates.moment) 1000) (second_at dates (speaks_at longest start serves))
    else manner.Speaks count
