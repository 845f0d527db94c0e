-- Why a packet spells no message: the first respect in which it isn't as the table of messages wants it (RFC 1002 sections 4.2.2
-- to 4.2.18; the order is our profile's).
use Rattle.std.specs.Prelude.{◌≡◌, ◌≢◌, ℕ, ◌+◌, ◌*◌, ◌<◌, ◌≤◌, ◌⊎◌, length, slice_index, Some}
use Rattle.nbt_packet.specs.declared.reason.Reason.{Reason}
use Rattle.nbt_packet.specs.declared.reason.Reason.TheVariants.{Opcode, Broadcast, Challenge, Sections, OtherType, OtherClass, Length, OtherName}
use Rattle.nbt_packet.specs.Message.{Question, IsRequest, IsResponse, IsUnicast, IsChallenge, opcode_of, rcode_of, nb, nbstat, internet, Asks, Claims, Answers, IsBare, AreEntries}
use Rattle.nbt_packet.specs.Packet.{PacketValue, RecordValue}

-- ---- the shapes of messages, which R, OPCODE and RCODE tell apart

-- a query or a status request; a registration, an overwrite, a refresh or a release; a response to one of these; a positive response
-- to a query, or a status; a negative response to a query; a request to wait
pub data Shape : Type 0 where
  asking : Shape
  claiming : Shape
  confirming : Shape
  finding : Shape
  denying : Shape
  waiting : Shape

-- registrations, releases and refreshes
abbrev pub IsOfEntry : (opcode : ℕ) → Type 0
IsOfEntry opcode = (opcode ≡ 5) ⊎ ((opcode ≡ 6) ⊎ ((opcode ≡ 8) ⊎ (opcode ≡ 9)))

abbrev pub HasShape : (flags : ℕ) → Shape → Type 0
HasShape flags asking = IsRequest flags × (opcode_of flags ≡ 0)
HasShape flags claiming = IsRequest flags × IsOfEntry (opcode_of flags)
HasShape flags confirming = IsResponse flags × IsOfEntry (opcode_of flags)
HasShape flags finding = IsResponse flags × (opcode_of flags ≡ 0) × (rcode_of flags ≡ 0)
HasShape flags denying = IsResponse flags × (opcode_of flags ≡ 0) × (rcode_of flags ≢ 0)
HasShape flags waiting = IsResponse flags × (opcode_of flags ≡ 7)

-- ---- what each shape wants

-- there is such a question, such an answer, such an additional record
abbrev pub Asked : PacketValue → (Question → Type 0) → Type 0
Asked p Q = (q : Question) × (p.question ≡ Some q) × Q q

abbrev pub Answered : PacketValue → (RecordValue → Type 0) → Type 0
Answered p R = (r : RecordValue) × (p.answer ≡ Some r) × R r

abbrev pub Added : PacketValue → (RecordValue → Type 0) → Type 0
Added p R = (r : RecordValue) × (p.additional ≡ Some r) × R r

-- In this respect the packet is as its shape wants it: B clear, but in a status request, whose B isn't looked at; no
-- challenge; the sections, their types and classes; RDATA of one entry, or of entries or as many names as NUM_NAMES says;
-- and one name.
abbrev pub IsRight : Shape → PacketValue → Reason → Type 0
IsRight shape p Opcode = HasShape p.flags shape
IsRight asking p Broadcast = IsUnicast p.flags ⊎ Asked p (λ q. q.rtype ≡ nbstat)
IsRight _ p Broadcast = IsUnicast p.flags
IsRight confirming p Challenge = ¬ IsChallenge p.flags
IsRight asking p Sections = (q : Question) × Asks p q
IsRight claiming p Sections = (q : Question) × (r : RecordValue) × Claims p q r
IsRight denying p Sections = IsBare p ⊎ ((r : RecordValue) × Answers p r)
IsRight _ p Sections = (r : RecordValue) × Answers p r
IsRight asking p OtherType = Asked p (λ q. (q.rtype ≡ nb) ⊎ (q.rtype ≡ nbstat))
IsRight claiming p OtherType = Asked p (λ q. q.rtype ≡ nb) × Added p (λ r. r.rtype ≡ nb)
IsRight confirming p OtherType = Answered p (λ r. r.rtype ≡ nb)
IsRight finding p OtherType = Answered p (λ r. (r.rtype ≡ nb) ⊎ (r.rtype ≡ nbstat))
IsRight asking p OtherClass = Asked p (λ q. q.class ≡ internet)
IsRight claiming p OtherClass = Asked p (λ q. q.class ≡ internet) × Added p (λ r. r.class ≡ internet)
IsRight confirming p OtherClass = Answered p (λ r. r.class ≡ internet)
IsRight finding p OtherClass = Answered p (λ r. r.class ≡ internet)
IsRight claiming p Length = Added p (λ r. length r.rdata ≡ 6)
IsRight confirming p Length = Answered p (λ r. length r.rdata ≡ 6)
IsRight finding p Length = Answered p (λ r. ((r.rtype ≡ nb) × AreEntries r.rdata)
    ⊎ ((r.rtype ≡ nbstat) × (0 < length r.rdata) × (1 + 18 * slice_index r.rdata 0 ≤ length r.rdata)))
IsRight claiming p OtherName = Asked p (λ q. Added p (λ r. q.name ≡ r.name))
IsRight _ p _ = Unit {0}

-- ---- the reason

-- In each respect before this one it is.
abbrev pub IsRightBefore : Shape → PacketValue → Reason → Type 0
IsRightBefore s p Challenge = IsRight s p Broadcast
IsRightBefore s p Sections = IsRight s p Broadcast × IsRight s p Challenge
IsRightBefore s p OtherType = IsRight s p Broadcast × IsRight s p Challenge × IsRight s p Sections
IsRightBefore s p OtherClass = IsRight s p Broadcast × IsRight s p Challenge × IsRight s p Sections × IsRight s p OtherType
IsRightBefore s p Length =
    IsRight s p Broadcast × IsRight s p Challenge × IsRight s p Sections × IsRight s p OtherType × IsRight s p OtherClass
IsRightBefore s p OtherName =
    IsRight s p Broadcast × IsRight s p Challenge × IsRight s p Sections × IsRight s p OtherType × IsRight s p OtherClass × IsRight s p Length
IsRightBefore s p _ = Unit {0}

-- The header has no shape, or the packet isn't as its shape wants it.
pub data IsReason (p : PacketValue) : Reason → Type 0 where
  no_shape : ((shape : Shape) → ¬ HasShape p.flags shape) → IsReason p Opcode
  not_right : (shape : Shape) (reason : Reason) → HasShape p.flags shape → IsRightBefore shape p reason → ¬ IsRight shape p reason → IsReason p reason
