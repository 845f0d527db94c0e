-- What a stream holds, as the code has it: where its parts stand, and what came of a message.
use Rattle.std.specs.Prelude.{◌≡◌, ℕ, ◌+◌, ◌≤◌, List, [], ◌++◌, length, take, Ok, Err}
use Rattle.nbt_session.specs.declared.fault.StreamFault.TheVariants.{Malformed, OutOfMemory}
use Rattle.nbt_session.specs.declared.packet.PacketType.TheVariants.{Message}
use Rattle.nbt_session.specs.Packet.{header}
use Rattle.nbt_session.specs.Parts.{PiecesState, between, inside, faulty}
use Rattle.nbt_session.specs.Taking.{StreamState, holding, failed, Taken, Takes}

-- a message's header is known by how many octets came and how many are to come
abbrev pub stream_state : PiecesState → List ℕ → StreamState
stream_state (between held) message = holding held
stream_state (inside missing) message = holding (header Message (length message + missing) ++ message)
stream_state (faulty fault) message = failed fault

abbrev pub IsGathering : PiecesState → List ℕ → Type 0
IsGathering (between held) message = (length held ≤ 514) × (message ≡ [])
IsGathering (inside missing) message = length message + missing ≤ 131071
IsGathering (faulty fault) message = Unit {0}

-- What a piece makes of the parts' state and the message. Where memory is refused, no fault was seen, and the message
-- begins as it did.
abbrev pub Gathers : (piece : List ℕ) (p : PiecesState) (message : List ℕ) → Taken → (q : PiecesState) (after : List ℕ) → Type 0
Gathers piece p message (Ok t) q after = IsGathering q after × Takes piece (stream_state p message) (Ok t) (stream_state q after)
Gathers piece p message (Err (Malformed fault)) q after = IsGathering q after × Takes piece (stream_state p message) (Err (Malformed fault)) (stream_state q after)
Gathers piece p message (Err OutOfMemory) q after = (take (length message) after ≡ message) × (held : List ℕ) × (stream_state p message ≡ holding held)
