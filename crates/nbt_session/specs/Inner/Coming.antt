-- What a stream in parts holds, as the code has it.
use Rattle.std.specs.Prelude.{◌≡◌, ◌≢◌, ℕ, ◌<◌, ◌≤◌, List, [], ◌++◌, length, take, Option, Some, None, Result, Ok, Err}
use Rattle.nbt_session.specs.declared.fault.Fault.{Fault}
use Rattle.nbt_session.specs.declared.fault.StreamFault.TheVariants.{Malformed}
use Rattle.nbt_session.specs.declared.header.Frame.{Frame}
use Rattle.nbt_session.specs.declared.packet.PacketType.TheVariants.{Message}
use Rattle.nbt_session.specs.declared.coming.Coming.{Coming}
use Rattle.nbt_session.specs.declared.coming.Came.{Came}
use Rattle.nbt_session.specs.declared.coming.Came.TheVariants as cames
use Rattle.nbt_session.specs.declared.coming.Reach.{Reach}
use Rattle.nbt_session.specs.declared.coming.Reach.TheVariants.{Cut, Whole}
use Rattle.nbt_session.specs.Packet as spec
use Rattle.nbt_session.specs.Packet.{HasLength, packet_of}
use Rattle.nbt_session.specs.Parts.{PartValue, message_start, other, PiecesState, between, inside, faulty, PartTaken}
use Rattle.nbt_session.specs.Stream.{HasFault}

-- what came: a part of the header, or a whole header and a part of what it counts
abbrev pub octets_by : List ℕ → Option Frame → List ℕ → List ℕ
octets_by header None body = header
octets_by header (Some f) body = spec.header f.kind f.count ++ body

abbrev pub octets_of : Coming → List ℕ
octets_of c = octets_by c.header.items c.frame c.body.items

-- A part of a header has no fault, and nothing after it. After a whole one, which is no message's, there is less than
-- it counts.
abbrev pub IsComingAs : List ℕ → Option Frame → List ℕ → Type 0
IsComingAs header None body = (length header < 4) × ((fault : Fault) → HasFault header fault → ⊥) × (body ≡ [])
IsComingAs header (Some f) body = HasLength f.kind f.count × (length body < f.count) × (f.kind ≢ Message)

abbrev pub IsComing : Coming → Type 0
IsComing c = IsComingAs c.header.items c.frame c.body.items

-- k octets of a piece complete a header that says f, before `body`, which is none of a message's
pub record Completes (held piece : List ℕ) (f : Frame) (k : ℕ) (body : List ℕ) : Type 0 where
  pub within : k ≤ length piece
  pub has : HasLength f.kind f.count
  pub room : length body ≤ f.count
  pub octets : held ++ take k piece ≡ spec.header f.kind f.count ++ body
  pub none : f.kind ≡ Message → body ≡ []

abbrev pub Reaches : Coming → List ℕ → Reach → Type 0
Reaches c piece (Cut header) = (header.items ≡ octets_of c ++ piece) × (length header.items < 4) × ((fault : Fault) → HasFault header.items fault → ⊥) × (c.frame ≡ None) × (c.body.items ≡ [])
Reaches c piece (Whole f k) = Completes (octets_of c) piece f k c.body.items

-- what is returned, as parts
abbrev pub part_if : Came → Option PartValue
part_if cames.Nothing = None
part_if (cames.Message size) = Some (message_start size)
part_if (cames.Other packet) = Some (other (packet_of packet))

abbrev pub came : Result (ℕ × Came) Fault → PartTaken
came (Ok t) = Ok (t.0, part_if t.1)
came (Err fault) = Err (Malformed fault)

-- the state afterwards
abbrev pub state_by : Coming → Came → PiecesState
state_by c cames.Nothing = between (octets_of c)
state_by c (cames.Message size) = inside size
state_by c (cames.Other packet) = between (octets_of c)

abbrev pub state_after : Coming → Result (ℕ × Came) Fault → PiecesState
state_after c (Ok t) = state_by c t.1
state_after c (Err fault) = faulty fault

-- after a message's header nothing is held
abbrev pub IsEmptied : Coming → Came → Type 0
IsEmptied c cames.Nothing = Unit {0}
IsEmptied c (cames.Message size) = octets_of c ≡ []
IsEmptied c (cames.Other packet) = Unit {0}
