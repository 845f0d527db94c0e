-- The lines of a session's packets so far, whichever line a packet has.
use Rattle.std.proofs.Common.{◌≡◌, ℕ, List, [], ◌∷◌, ◌++◌, ◌-◌, length, take, drop, Option, Some, refl, sym, ◌∙◌, ap, subst, append_assoc}
use Rattle.std.specs.Prelude.{IfSome}
use Rattle.std.specs.List.{flat_map}
use Rattle.std.proofs.lemmas.List.{append-nil}
use Rattle.nbt_session.specs.declared.fault.Fault.{Fault}
use Rattle.nbt_session.specs.Packet.{PacketValue, IsPacket, text}
use Rattle.nbt_session.specs.Parts.{PiecesState, between}
use Rattle.nbt_session.specs.Stream.{Begins, IsPartial, StreamIs, HasFault}
use Rattle.nbt_text.proofs.Joining.{two_parts}
use Rattle.nbt_show.proofs.NextPacket.{left_is}
use Rattle.nbt_show.specs.declared.session_packet.Whole.{Whole}
use Rattle.nbt_show.specs.SessionText.{whole_of}
use Rattle.nbt_text.specs.Texts.{PrintsEach, none_printed, one_printed as packet_printed}

-- each packet takes octets, and what is left stands after it
behind : (n : ℕ) (octets : List ℕ) (packet : PacketValue) → Begins octets packet (drop n octets) → octets ≡ text packet ++ take (length octets - n) (drop n octets)
behind n octets packet begins = begins.1 ∙ ap (λ (xs : List ℕ). text packet ++ xs) (sym (left_is octets n))

-- a fault stands where no whole packet does
pub partial_fault : ((octets : List ℕ) (packet : PacketValue) (rest : List ℕ) (fault : Fault) → Begins octets packet rest → HasFault octets fault → ⊥) → (octets : List ℕ) (fault : Fault) → HasFault octets fault → IsPartial octets
partial_fault apart octets fault has = λ packet rest begins. apart octets packet rest fault begins has

-- ---- the packets so far

-- whatever packets follow, they complete those that are printed
abbrev pub Continues : (PrintsOne : PacketValue → List ℕ → Type 0) (octets rest lines : List ℕ) → Type 0
Continues PrintsOne octets rest lines = (packets : List PacketValue) (left more : List ℕ) → StreamIs rest packets left → PrintsEach PrintsOne packets more
    → (all : List PacketValue) × StreamIs octets all left × PrintsEach PrintsOne all (lines ++ more)

packet_first : (packet : PacketValue) (after : List ℕ) (packets : List PacketValue) (left : List ℕ) → IsPacket packet → StreamIs after packets left → StreamIs (text packet ++ after) (packet ∷ packets) left
packet_first packet after packets left is stream = record {
  whole = ap (λ (x : List ℕ). text packet ++ x) stream.whole ∙ sym (append_assoc (text packet) (flat_map text packets) left);
  each = (is, stream.each);
  partial = stream.partial;
}

one_more : (PrintsOne : PacketValue → List ℕ → Type 0) (octets rest after lines line : List ℕ) (packet : PacketValue) → rest ≡ text packet ++ after → IsPacket packet → PrintsOne packet line → Continues PrintsOne octets rest lines → Continues PrintsOne octets after (lines ++ line)
one_more PrintsOne octets rest after lines line packet e is prints so_far packets left more stream others =
    let next = so_far (packet ∷ packets) left (line ++ more) (subst (λ (x : List ℕ). StreamIs x (packet ∷ packets) left) (sym e) (packet_first packet after packets left is stream)) (packet_printed packet packets line more prints others) in
    (next.0, next.1, subst (λ (x : List ℕ). PrintsEach PrintsOne next.0 x) (sym (append_assoc lines line more)) next.2)

pub all_printed : (PrintsOne : PacketValue → List ℕ → Type 0) (octets rest lines : List ℕ) → IsPartial rest → Continues PrintsOne octets rest lines → (all : List PacketValue) × StreamIs octets all rest × PrintsEach PrintsOne all lines
all_printed PrintsOne octets rest lines partial so_far =
    let next = so_far [] rest [] (record { whole = refl; each = tt; partial = partial }) none_printed in
    (next.0, next.1, subst (λ (x : List ℕ). PrintsEach PrintsOne next.0 x) (append-nil lines) next.2)

-- what was appended are the lines of the packets so far
abbrev pub Printed : (PrintsOne : PacketValue → List ℕ → Type 0) (octets rest before now : List ℕ) → Type 0
Printed PrintsOne octets rest before now = (lines : List ℕ) × (now ≡ before ++ lines) × Continues PrintsOne octets rest lines

pub next_round : (PrintsOne : PacketValue → List ℕ → Type 0) (octets rest before now after : List ℕ) (n : ℕ) (packet : PacketValue) → Printed PrintsOne octets rest before now → Begins rest packet (drop n rest) → (line : List ℕ) × (after ≡ now ++ line) × PrintsOne packet line
    → Printed PrintsOne octets (take (length rest - n) (drop n rest)) before after
next_round PrintsOne octets rest before now after n packet so_far begins line = (
  so_far.0 ++ line.0,
  two_parts before now after so_far.0 line.0 so_far.1 line.1,
  one_more PrintsOne octets rest (take (length rest - n) (drop n rest)) so_far.0 line.0 packet (behind n rest packet begins) begins.0 line.2 so_far.2,
)

-- so it is between two packets, whose reader then holds nothing
pub record Between (PrintsOne : PacketValue → List ℕ → Type 0) (octets rest before now : List ℕ) (pieces : PiecesState) : Type 0 where
  pub anew : pieces ≡ between []
  pub printed : Printed PrintsOne octets rest before now

pub one_printed : (PrintsOne : PacketValue → List ℕ → Type 0) (octets rest before now after : List ℕ) (pieces : PiecesState) (found : Option (ℕ × Whole)) (one : ℕ × Whole) → found ≡ Some one
    → IfSome found (λ t. Begins rest (whole_of t.1) (drop t.0 rest)) → IfSome found (λ t. pieces ≡ between []) → Printed PrintsOne octets rest before now
    → (line : List ℕ) × (after ≡ now ++ line) × PrintsOne (whole_of one.1) line → Between PrintsOne octets (take (length rest - one.0) (drop one.0 rest)) before after pieces
one_printed PrintsOne octets rest before now after pieces found one is begins anew so_far line = record {
  anew = rw is at anew;
  printed = next_round PrintsOne octets rest before now after one.0 (whole_of one.1) so_far (rw is at begins) line;
}
