-- Lines of vectors, which are octets and what the reader of packets, or of datagrams, says of them, and what is printed of each (our profile).
use Rattle.std.specs.Prelude.{◌≡◌, ℕ, ◌+◌, ◌==◌, List, [], ◌∷◌, ◌++◌, Option, Some, None, Bool, true, false, codes, Ok, Err}
use Rattle.std.specs.Fmt.{decimal}
use Rattle.nbt_show.specs.declared.vector.Expected.{Expected}
use Rattle.nbt_text.specs.Lines.{lines, newline, verdict_line, IsPassedOver, words, SpellsOctets}
use Rattle.nbt_dgram.specs.declared.fault.DgramFault.{DgramFault}
use Rattle.nbt_dgram.specs.Dgram.{DgramValue, DgramIs, FaultIs}
use Rattle.nbt_dgram.specs.Numbers.{fault_word as dgram_fault_word}
use Rattle.nbt_packet.specs.declared.fault.Fault.{Fault}
use Rattle.nbt_packet.specs.Packet.{PacketValue, PacketIs, PacketFault}
use Rattle.nbt_show.specs.declared.vector.Expected.TheVariants.{Name, Dgram}
use Rattle.nbt_show.specs.declared.vector.Service.{Service}
use Rattle.nbt_show.specs.declared.vector.Service.TheVariants as services
use Rattle.nbt_text.specs.Number.{SpellsNumber}
use Rattle.nbt_packet.specs.Numbers.{fault_word}

-- ---- a vector

-- the reader of packets, or of datagrams, says what is expected: how many octets are taken, or the fault
abbrev pub Says : List ℕ → Expected → Type 0
Says octets (Name (Ok taken)) = (packet : PacketValue) × PacketIs octets packet taken
Says octets (Name (Err fault)) = PacketFault octets fault
Says octets (Dgram (Ok taken)) = (d : DgramValue) × DgramIs octets d taken
Says octets (Dgram (Err fault)) = FaultIs octets fault

-- the word for the service whose reader is asked
abbrev pub service_word : Service → List ℕ
service_word services.Name = codes "name"
service_word services.Dgram = codes "dgram"

-- `ok N`, or `fault WORD PLACE` with a word of the service's faults
pub data SpellsExpected : Service → List (List ℕ) → Expected → Type 0 where
  name_taken : (number : List ℕ) (count : ℕ) → SpellsNumber number count
      → SpellsExpected services.Name (codes "ok" ∷ number ∷ []) (Name (Ok count))
  name_refused : (number : List ℕ) (fault : Fault) → SpellsNumber number fault.place
      → SpellsExpected services.Name (codes "fault" ∷ fault_word fault.kind ∷ number ∷ []) (Name (Err fault))
  dgram_taken : (number : List ℕ) (count : ℕ) → SpellsNumber number count
      → SpellsExpected services.Dgram (codes "ok" ∷ number ∷ []) (Dgram (Ok count))
  dgram_refused : (number : List ℕ) (fault : DgramFault) → SpellsNumber number fault.place
      → SpellsExpected services.Dgram (codes "fault" ∷ dgram_fault_word fault.kind ∷ number ∷ []) (Dgram (Err fault))

-- the service's word, HEX, and what is expected
pub data SpellsVector : List (List ℕ) → List ℕ → Expected → Type 0 where
  vector : (service : Service) (digits : List ℕ) (rest : List (List ℕ)) (octets : List ℕ) (expected : Expected)
      → SpellsOctets digits octets → SpellsExpected service rest expected
      → SpellsVector (service_word service ∷ digits ∷ rest) octets expected

-- ---- verdicts

-- What is printed of the line with this number, and whether its vector passes; nothing where it is passed over.
pub data PrintsVerdict (number : ℕ) (line : List ℕ) : Option Bool → List ℕ → Type 0 where
  passed_over : IsPassedOver line → PrintsVerdict number line None []
  passes : (octets : List ℕ) (expected : Expected) → ¬ (IsPassedOver line) → SpellsVector (words line) octets expected
      → Says octets expected → PrintsVerdict number line (Some true) (verdict_line number (codes "pass"))
  fails : (octets : List ℕ) (expected : Expected) → ¬ (IsPassedOver line) → SpellsVector (words line) octets expected
      → ¬ (Says octets expected) → PrintsVerdict number line (Some false) (verdict_line number (codes "fail"))
  unreadable : ¬ (IsPassedOver line) → ((octets : List ℕ) (expected : Expected) → ¬ SpellsVector (words line) octets expected)
      → PrintsVerdict number line (Some false) (verdict_line number (codes "unreadable"))

-- whether a line is counted as passed, and as failed
abbrev pub passed_in : Option Bool → ℕ
passed_in (Some true) = 1
passed_in (Some false) = 0
passed_in None = 0

abbrev pub failed_in : Option Bool → ℕ
failed_in (Some true) = 0
failed_in (Some false) = 1
failed_in None = 0

-- What is printed of lines, of which the first has this number, and how many of them pass and fail.
pub data PrintsVerdicts : ℕ → List (List ℕ) → List ℕ → (passed failed : ℕ) → Type 0 where
  no_lines : (number : ℕ) → PrintsVerdicts number [] [] 0 0
  one_line : (number : ℕ) (line : List ℕ) (rest : List (List ℕ)) (verdict : Option Bool) (text more : List ℕ) (passed failed : ℕ)
      → PrintsVerdict number line verdict text → PrintsVerdicts (number + 1) rest more passed failed
      → PrintsVerdicts number (line ∷ rest) (text ++ more) (passed_in verdict + passed) (failed_in verdict + failed)

-- What is printed of an input, and whether no line failed: the verdicts, and how many passed and failed.
pub record PrintsChecked (input : List ℕ) (none_failed : Bool) (text : List ℕ) : Type 0 where
  pub verdicts : List ℕ
  pub passed : ℕ
  pub failed : ℕ
  pub verdicts_are : PrintsVerdicts 1 (lines input) verdicts passed failed
  pub none_failed_is : none_failed ≡ (failed == 0)
  pub text_is : text ≡ verdicts ++ decimal passed ++ codes " passed, " ++ decimal failed ++ codes " failed" ++ newline
