-- The texts of what came of a step, each after a space (our profile).
use Rattle.std.specs.Prelude.{ℕ, ◌/◌, List, [], ◌∷◌, ◌++◌, length, codes}
use Rattle.std.specs.Fmt.{decimal}
use Rattle.std.specs.List.{flat_map}
use Rattle.std.specs.Simd.{first_chunks}
use Rattle.hex.specs.Hex.{encode_lower}
use Rattle.nbt_node.specs.declared.event.Event.{Event}
use Rattle.nbt_node.specs.declared.event.Event.TheVariants as event
use Rattle.nbt_session.specs.declared.caller.Failure.{Failure}
use Rattle.nbt_session.specs.declared.caller.Failure.TheVariants as failure
use Rattle.nbt_session.specs.Numbers.{failure_number}
use Rattle.nbt_text.specs.Address.{entry_address}
use Rattle.nbt_bench.specs.declared.outcome.Outcome.{Outcome}
use Rattle.nbt_bench.specs.declared.outcome.Outcome.TheVariants as outcome

-- the address of an entry
abbrev pub entry_text : List ℕ → List ℕ
entry_text e = codes " " ++ entry_address e

-- the addresses of entries of six octets each
abbrev pub addresses_text : List ℕ → List ℕ
addresses_text octets = flat_map entry_text (first_chunks 6 (length octets / 6) octets)

-- what a reply was to a node
abbrev pub event_text : Event → List ℕ
event_text (event.Granted seconds) = codes " granted " ++ decimal seconds
event_text (event.Refused rcode) = codes " refused " ++ decimal rcode
event_text (event.Freed rcode) = codes " " ++ decimal rcode
event_text (event.Found entries cut) = addresses_text entries.now
event_text other = codes " none"

-- why a call failed: the code of a refusal has two hexadecimal digits
abbrev pub failure_text : Failure → List ℕ
failure_text (failure.Refused code) = codes " refused " ++ encode_lower (code ∷ [])
failure_text other = codes " failed " ++ decimal (failure_number other)

abbrev pub outcome_text : Outcome → List ℕ
outcome_text (outcome.Event e) = event_text e
outcome_text (outcome.Octets count) = codes " " ++ decimal count ++ codes " octets"
outcome_text outcome.Open = codes " open"
outcome_text (outcome.Failed f) = failure_text f
outcome_text outcome.Nothing = codes " none"
