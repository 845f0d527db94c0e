-- What a piece makes of the packet that comes.
use Rattle.std.proofs.Common.{◌≡◌, ◌≢◌, ℕ, ◌+◌, ◌-◌, ◌<◌, ◌≤◌, List, [], ◌++◌, length, take, drop, min, Option, Some, None, Ok, Err, refl, sym, ap, subst, ◌∙◌, arith, append_assoc}
use Rattle.std.proofs.Math.Seq.{take-add}
use Rattle.std.proofs.lemmas.List.{length-append, length-take, length-drop, append-nil, nil_from_length, take-append-drop, take_all}
use Rattle.nbt_name.specs.Wire.{AreOctets}
use Rattle.nbt_name.proofs.Fits.{octets_take}
use Rattle.nbt_session.specs.declared.fault.Fault.{Fault}
use Rattle.nbt_session.specs.declared.fault.StreamFault.TheVariants.{Malformed}
use Rattle.nbt_session.specs.declared.header.Frame.{Frame}
use Rattle.nbt_session.specs.declared.packet.PacketType.{PacketType}
use Rattle.nbt_session.specs.declared.packet.PacketType.TheVariants.{Message, Request}
use Rattle.nbt_session.specs.Inner.Coming.{octets_by, IsComingAs, Completes}
use Rattle.nbt_session.specs.Packet.{PacketValue, HasLength, header, framed, type_of, body_of, IsPacket}
use Rattle.nbt_session.specs.Parts.{message_start, message_data, message_end, other, PiecesState, between, inside, faulty, PartTaken, IsNoMessage, TakesPart, message_starts, message_goes_on, message_waits, message_ends, packet_is_whole, piece_is_held, fault_is_seen, fault_stays}
use Rattle.nbt_session.specs.Stream.{IsPartial, RequestFault, HasFault, type_bad, flags_bad, length_bad, request_bad}
use Rattle.nbt_session.proofs.Packets.{most_fits, body_short, header_apart}
use Rattle.nbt_session.proofs.Faults.{stays, sound}

-- ---- the header

pub fault_joins : (head piece whole : List ℕ) (k : ℕ) (f : Fault) → whole ≡ head ++ take k piece → HasFault whole f → HasFault (head ++ piece) f
fault_joins head piece whole k f is bad =
    let all : whole ++ drop k piece ≡ head ++ piece = ap (λ (xs : List ℕ). xs ++ drop k piece) is ∙ append_assoc head (take k piece) (drop k piece) ∙ ap (λ (xs : List ℕ). head ++ xs) (take-append-drop k piece) in
    subst (λ (xs : List ℕ). HasFault xs f) all (stays whole (drop k piece) f bad)

-- a message's header
pub header_whole : (held piece body : List ℕ) (f : Frame) (k : ℕ) → Completes held piece f k body → f.kind ≡ Message → TakesPart piece (between held) (Ok (k, Some (message_start f.count))) (inside f.count)
header_whole held piece body f k c is =
    let fits : f.count ≤ 131071 = omega (arith, c.has.1, most_fits f.kind) in
    message_starts held k f.count c.within fits
    (c.octets ∙ ap (λ (xs : List ℕ). header f.kind f.count ++ xs) (c.none is) ∙ append-nil (header f.kind f.count) ∙ ap (λ (t : PacketType). header t f.count) is)

-- ---- nothing is whole

-- octets that join what is held
held_by : (held piece : List ℕ) (n : ℕ) (after : List ℕ) → n ≡ length piece → after ≡ held ++ piece → IsNoMessage after → IsPartial after → ((f : Fault) → HasFault after f → ⊥) → TakesPart piece (between held) (Ok (n, None)) (between after)
held_by held piece n after count is no_message partial none =
    subst (λ (xs : List ℕ). TakesPart piece (between held) (Ok (n, None)) (between xs)) (sym is)
    (subst (λ (m : ℕ). TakesPart piece (between held) (Ok (m, None)) (between (held ++ piece))) (sym count)
    (piece_is_held held (subst IsNoMessage is no_message) (subst IsPartial is partial) (subst (λ (xs : List ℕ). (f : Fault) → HasFault xs f → ⊥) is none)))

short_is_partial : (octets : List ℕ) → length octets < 4 → IsPartial octets
short_is_partial octets short p rest (is, e) = omega (arith, ap length e)

short_is_no_message : (octets : List ℕ) → length octets < 4 → IsNoMessage octets
short_is_no_message octets short size rest fits e = omega (arith, ap length e)

header_cut : (held piece after : List ℕ) → after ≡ held ++ piece → length after < 4 → ((f : Fault) → HasFault after f → ⊥) → TakesPart piece (between held) (Ok (length piece, None)) (between after)
header_cut held piece after is cut none = held_by held piece (length piece) after refl is (short_is_no_message after cut) (short_is_partial after cut) none

-- a header without all that it counts is no packet
pub unfilled_is_partial : (kind : PacketType) (n : ℕ) (tail : List ℕ) → HasLength kind n → length tail < n → IsPartial (header kind n ++ tail)
unfilled_is_partial kind n tail has short p rest (is, e) =
    let same = header_apart kind (type_of p) n (length (body_of p)) tail (body_of p ++ rest) (omega (arith, has.1, most_fits kind)) (body_short p is) e in
    omega (arith, same.count, ap length same.tail, length-append (body_of p) rest)

pub message_lacks : (size : ℕ) (octets : List ℕ) → size ≤ 131071 → length octets < size → IsPartial (header Message size ++ octets) × ((fault : Fault) → ¬ HasFault (header Message size ++ octets) fault)
message_lacks size octets fits short =
    let has : HasLength Message size = (omega arith, fits) in
    (unfilled_is_partial Message size octets has short, λ fault. sound Message size octets fault has (λ is. short))

-- another type's header is no message's
other_is_no_message : (kind : PacketType) (n : ℕ) (tail : List ℕ) → HasLength kind n → kind ≢ Message → IsNoMessage (header kind n ++ tail)
other_is_no_message kind n tail has apart size rest fits e =
    let same = header_apart kind Message n size tail rest (omega (arith, has.1, most_fits kind)) fits e in
    apart same.kind

-- what is held and a piece are the header and what comes after it
all_is : (held piece body : List ℕ) (f : Frame) (k : ℕ) → Completes held piece f k body → held ++ piece ≡ header f.kind f.count ++ (body ++ drop k piece)
all_is held piece body f k c =
    ap (λ (xs : List ℕ). held ++ xs) (sym (take-append-drop k piece)) ∙ sym (append_assoc held (take k piece) (drop k piece)) ∙ ap (λ (xs : List ℕ). xs ++ drop k piece) c.octets ∙ append_assoc (header f.kind f.count) body (drop k piece)

pub body_cut : (held piece body after : List ℕ) (f : Frame) (k : ℕ) → Completes held piece f k body → f.kind ≢ Message → length (body ++ drop k piece) < f.count → after ≡ body ++ drop k piece
    → TakesPart piece (between held) (Ok (length piece, None)) (between (header f.kind f.count ++ after))
body_cut held piece body after f k c apart short is =
    let frame : header f.kind f.count ++ after ≡ header f.kind f.count ++ (body ++ drop k piece) = ap (λ (xs : List ℕ). header f.kind f.count ++ xs) is in
    held_by held piece (length piece) _ refl (frame ∙ sym (all_is held piece body f k c))
    (subst IsNoMessage (sym frame) (other_is_no_message f.kind f.count (body ++ drop k piece) c.has apart))
    (subst IsPartial (sym frame) (unfilled_is_partial f.kind f.count (body ++ drop k piece) c.has short))
    (subst (λ (xs : List ℕ). (g : Fault) → HasFault xs g → ⊥) (sym frame) (λ g. sound f.kind f.count (body ++ drop k piece) g c.has (λ request. short)))

-- ---- a packet that is whole, or a request with a fault

-- the octets after the header, as many as it counts
pub record Fills (body piece filled : List ℕ) (k m n : ℕ) : Type 0 where
  pub octets : filled ≡ body ++ take m (drop k piece)
  pub there : m ≤ length (drop k piece)
  pub count : length filled ≡ n

pub packet_whole : (held piece body filled : List ℕ) (f : Frame) (k m : ℕ) (p : PacketValue) → Completes held piece f k body → f.kind ≢ Message → Fills body piece filled k m f.count → IsPacket p → type_of p ≡ f.kind → body_of p ≡ filled
    → TakesPart piece (between held) (Ok (k + m, Some (other p))) (between [])
packet_whole held piece body filled f k m p c no_message fills is_p kind_is body_is =
    packet_is_whole held (k + m) p (omega (arith, c.within, fills.there, length-drop k piece)) is_p (λ is. no_message (sym kind_is ∙ is)) (
    ap (λ (xs : List ℕ). held ++ xs) (take-add k m piece)
    ∙ sym (append_assoc held (take k piece) (take m (drop k piece)))
    ∙ ap (λ (xs : List ℕ). xs ++ take m (drop k piece)) c.octets
    ∙ append_assoc (header f.kind f.count) body (take m (drop k piece))
    ∙ ap (λ (xs : List ℕ). header f.kind f.count ++ xs) (sym fills.octets)
    ∙ ap (λ (i : ℕ). header f.kind i ++ filled) (sym fills.count)
    ∙ sym (ap (λ (t : PacketType). framed t (body_of p)) kind_is ∙ ap (framed f.kind) body_is)
    )

pub request_fault : (held piece body filled : List ℕ) (f : Frame) (k m : ℕ) (fault : Fault) → Completes held piece f k body → Fills body piece filled k m f.count → f.kind ≡ Request → RequestFault filled fault
    → TakesPart piece (between held) (Err (Malformed fault)) (faulty fault)
request_fault held piece body filled f k m fault c fills request bad =
    let rest : List ℕ = drop m (drop k piece) in
    let tail : body ++ drop k piece ≡ filled ++ rest =
    ap (λ (xs : List ℕ). body ++ xs) (sym (take-append-drop m (drop k piece))) ∙ sym (append_assoc body (take m (drop k piece)) rest) ∙ ap (λ (xs : List ℕ). xs ++ rest) (sym fills.octets) in
    fault_is_seen held fault (
    request_bad filled rest fault (
    all_is held piece body f k c
    ∙ ap (λ (xs : List ℕ). header f.kind f.count ++ xs) tail
    ∙ ap (λ (i : ℕ). header f.kind i ++ (filled ++ rest)) (sym fills.count)
    ∙ ap (λ (t : PacketType). header t (length filled) ++ (filled ++ rest)) request
    ) (subst (λ (t : PacketType). HasLength t (length filled)) request (subst (HasLength f.kind) (sym fills.count) c.has)) bad
    )

-- ---- as the code has it

-- the rest of a piece after the header
pub rest_is : (piece : List ℕ) (k : ℕ) → k ≤ length piece → take (length piece - k) (drop k piece) ≡ drop k piece
rest_is piece k within = take_all (length piece - k) (drop k piece) (omega (arith, length-drop k piece))

pub fills_by : (body piece filled : List ℕ) (k m n : ℕ) → k ≤ length piece → filled ≡ body ++ take m (take (length piece - k) (drop k piece)) → m + length body ≡ n → m ≤ length (take (length piece - k) (drop k piece)) → Fills body piece filled k m n
fills_by body piece filled k m n within is total there =
    let rest = rest_is piece k within in
    let octets : filled ≡ body ++ take m (drop k piece) = is ∙ ap (λ (xs : List ℕ). body ++ take m xs) rest in
    let fits : m ≤ length (drop k piece) = omega (arith, ap length rest) in
    record { octets = octets; there = fits; count = omega (arith, ap length octets, length-append body (take m (drop k piece)), length-take m (drop k piece)) }

empty_sound : (f : Fault) → HasFault [] f → ⊥
empty_sound _ (type_bad t rest e unknown) = cc
empty_sound _ (flags_bad kind flags rest e bits) = cc
empty_sound _ (length_bad kind flags high low rest e one wrong) = cc
empty_sound _ (request_bad body rest f e has bad) = cc

pub nothing_coming : (head body : List ℕ) (frame : Option Frame) → head ≡ [] → frame ≡ None → body ≡ [] → IsComingAs head frame body
nothing_coming head body frame e f g =
    subst (λ (xs : List ℕ). IsComingAs xs frame body) (sym e) (subst (λ (x : Option Frame). IsComingAs [] x body) (sym f) (omega arith, empty_sound, g))

pub nothing_held : (head body : List ℕ) (frame : Option Frame) → head ≡ [] → frame ≡ None → octets_by head frame body ≡ []
nothing_held head body frame e f = ap (λ (x : Option Frame). octets_by head x body) f ∙ e

pub nothing_after : (piece : List ℕ) (before : PiecesState) (outcome : PartTaken) (head body : List ℕ) (frame : Option Frame) → head ≡ [] → frame ≡ None → TakesPart piece before outcome (between []) → TakesPart piece before outcome (between (octets_by head frame body))
nothing_after piece before outcome head body frame e f takes = subst (λ (xs : List ℕ). TakesPart piece before outcome (between xs)) (sym (nothing_held head body frame e f)) takes

pub cut_by : (held piece head body : List ℕ) (frame : Option Frame) → frame ≡ None → head ≡ held ++ piece → length head < 4 → ((f : Fault) → HasFault head f → ⊥) → TakesPart piece (between held) (Ok (length piece, None)) (between (octets_by head frame body))
cut_by held piece head body frame e is cut none = subst (λ (x : Option Frame). TakesPart piece (between held) (Ok (length piece, None)) (between (octets_by head x body))) (sym e) (header_cut held piece head is cut none)

-- ---- in a message

pub ends_at : (piece held : List ℕ) (before : PiecesState) (missing : ℕ) → before ≡ inside missing → missing ≡ 0 → held ≡ [] → TakesPart piece before (Ok (0, Some message_end)) (between held)
ends_at piece held before missing at none empty = rw (at, none, empty) message_ends

pub waits_at : (piece : List ℕ) (before : PiecesState) (missing n : ℕ) → before ≡ inside missing → 0 < missing → n ≡ min missing (length piece) → n ≡ 0 → TakesPart piece before (Ok (0, None)) before
waits_at piece before missing n at some count none = rw at (message_waits missing some (nil_from_length piece (omega arith)))

pub goes_on_at : (piece : List ℕ) (before : PiecesState) (missing n : ℕ) → before ≡ inside missing → n ≡ min missing (length piece) → 0 < n → AreOctets piece → TakesPart piece before (Ok (n, Some (message_data (take n piece)))) (inside (missing - n))
goes_on_at piece before missing n at count some are = rw at (message_goes_on missing n count some (octets_take n piece are))

pub stays_at : (piece : List ℕ) (before : PiecesState) (fault : Fault) → before ≡ faulty fault → TakesPart piece before (Err (Malformed fault)) before
stays_at piece before fault at = rw at (fault_stays fault)
