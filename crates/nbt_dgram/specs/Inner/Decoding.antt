-- What the reader's private functions find.
use Rattle.std.specs.Prelude.{◌≡◌, ℕ, Bool, true, false, List}
use Rattle.nbt_name.specs.declared.fault.NameFault.{NameFault}
use Rattle.nbt_name.specs.Reading.{PlainFaultAt}
use Rattle.nbt_dgram.specs.declared.fault.DgramFault.{DgramFault}
use Rattle.nbt_dgram.specs.declared.dgram.Part.{Part}
use Rattle.nbt_dgram.specs.declared.dgram.Part.TheVariants.{First, Later}
use Rattle.nbt_dgram.specs.Numbers.{fault_within}
use Rattle.nbt_dgram.specs.Dgram.{NamesAt}

-- a name's fault within the octets that DGM_LENGTH counts
pub data NameFaultAt (octets : List ℕ) (place : ℕ) : DgramFault → Type 0 where
  name_bad : (fault : NameFault) → PlainFaultAt octets place fault → NameFaultAt octets place (fault_within fault)

-- the part that F and PACKET_OFFSET tell
abbrev pub IsReadPart : List ℕ → Bool → ℕ → Part → ℕ → Type 0
IsReadPart octets first offset (First names) next = (first ≡ true) × NamesAt octets names next
IsReadPart octets first offset (Later place) next = (first ≡ false) × (place ≡ offset) × (next ≡ 14)
