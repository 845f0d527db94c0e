-- What the parts of a piece make of a stream.
use Rattle.std.proofs.Common.{◌≡◌, ℕ, ◌+◌, ◌-◌, ◌*◌, ◌<◌, ◌≤◌, List, [], ◌++◌, length, take, drop, Some, None, Ok, Err, refl, sym, ap, subst, ◌∙◌, arith, append_assoc}
use Rattle.std.proofs.Math.Seq.{take-add}
use Rattle.std.proofs.lemmas.List.{length-append, length-take, length-drop, append-nil, take-append-drop, take-append-le, take_all}
use Rattle.nbt_name.specs.Wire.{AreOctets}
use Rattle.nbt_session.specs.declared.fault.Fault.{Fault}
use Rattle.nbt_session.specs.declared.fault.StreamFault.{StreamFault}
use Rattle.nbt_session.specs.declared.fault.StreamFault.TheVariants.{Malformed, OutOfMemory}
use Rattle.nbt_session.specs.declared.packet.PacketType.TheVariants.{Message}
use Rattle.nbt_session.specs.Inner.Gathering.{stream_state, IsGathering, Gathers}
use Rattle.nbt_session.specs.Packet.{PacketValue, message, HasLength, header, text, IsPacket}
use Rattle.nbt_session.specs.Parts.{message_start, message_data, message_end, other, PiecesState, between, inside, faulty, TakesPart}
use Rattle.nbt_session.specs.Parts as parts
use Rattle.nbt_session.specs.Stream.{IsPartial, HasFault}
use Rattle.nbt_session.specs.Taking.{StreamState, holding, failed, Taken, Takes, packet_is_whole, piece_is_held, fault_is_seen, fault_stays, memory_is_refused}
use Rattle.nbt_session.proofs.Comings.{rest_is, unfilled_is_partial}
use Rattle.nbt_session.proofs.Faults.{sound}

-- octets that join what is held
abbrev pub gone_on : StreamState → List ℕ → StreamState
gone_on (holding held) octets = holding (held ++ octets)
gone_on (failed fault) octets = failed fault

gone_twice : (s : StreamState) (a b : List ℕ) → gone_on (gone_on s a) b ≡ gone_on s (a ++ b)
gone_twice (holding held) a b = ap holding (append_assoc held a b)
gone_twice (failed fault) a b = refl

-- The octets of the piece that were taken joined what was held.
pub record SoFar (piece : List ℕ) (first : StreamState) (front : List ℕ) (n : ℕ) (p : PiecesState) (own : List ℕ) : Type 0 where
  pub within : n ≤ length piece
  pub gathering : IsGathering p own
  pub joined : stream_state p own ≡ gone_on first (take n piece)
  pub kept : take (length front) own ≡ front

-- the part of a piece that isn't taken
abbrev left : List ℕ → ℕ → List ℕ
left piece n = take (length piece - n) (drop n piece)

two_takes : (piece : List ℕ) (n k : ℕ) → n ≤ length piece → take n piece ++ take k (left piece n) ≡ take (n + k) piece
two_takes piece n k within = ap (λ (xs : List ℕ). take n piece ++ take k xs) (rest_is piece n within) ∙ sym (take-add n k piece)

-- more octets
further : (piece : List ℕ) (first s : StreamState) (n k : ℕ) → n ≤ length piece → s ≡ gone_on first (take n piece) → gone_on s (take k (left piece n)) ≡ gone_on first (take (n + k) piece)
further piece first s n k within is =
    ap (λ (x : StreamState). gone_on x (take k (left piece n))) is ∙ gone_twice first (take n piece) (take k (left piece n)) ∙ ap (gone_on first) (two_takes piece n k within)

left_length : (piece : List ℕ) (n : ℕ) → n ≤ length piece → length (left piece n) ≡ length piece - n
left_length piece n within = ap length (rest_is piece n within) ∙ length-drop n piece

-- ---- a part that goes on

-- how far a piece is from its end: two for each octet, and one before a message's header
abbrev pub distance : PiecesState → ℕ → ℕ
distance (between held) n = n * 2 + 1
distance (inside missing) n = n * 2
distance (faulty fault) n = n * 2

pub record Onward (piece : List ℕ) (first : StreamState) (front : List ℕ) (n k : ℕ) (p q : PiecesState) (own : List ℕ) : Type 0 where
  pub so_far : SoFar piece first front (n + k) q own
  pub nearer : distance q (length piece - (n + k)) < distance p (length piece - n)

pub after_start : (piece : List ℕ) (first : StreamState) (front : List ℕ) (n k size : ℕ) (p q : PiecesState) (own : List ℕ) → SoFar piece first front n p own → TakesPart (left piece n) p (Ok (k, Some (message_start size))) q
    → Onward piece first front n k p q own
after_start piece first front n _ _ _ _ own s (parts.message_starts held k size within fits whole) =
    let none : own ≡ [] = s.gathering.1 in
    let octets : header Message (length own + size) ++ own ≡ held ++ take k (left piece n) =
    ap (λ (xs : List ℕ). header Message (length xs + size) ++ xs) none ∙ ap (λ (i : ℕ). header Message i ++ []) (zero_plus size) ∙ append-nil (header Message size) ∙ sym whole in
    record {
      so_far = record {
        within = omega (arith, s.within, within, left_length piece n s.within);
        gathering = omega (arith, fits, ap length none);
        joined = ap holding octets ∙ further piece first (holding held) n k s.within s.joined;
        kept = s.kept;
      };
      nearer = omega (arith, s.within, within, left_length piece n s.within);
    }
  where
    zero_plus : (size : ℕ) → length {A = ℕ} [] + size ≡ size
    zero_plus size = omega arith

pub after_data : (piece : List ℕ) (first : StreamState) (front : List ℕ) (n k : ℕ) (octets : List ℕ) (p q : PiecesState) (own after : List ℕ) → SoFar piece first front n p own → TakesPart (left piece n) p (Ok (k, Some (message_data octets))) q → after ≡ own ++ octets
    → Onward piece first front n k p q after
after_data piece first front n _ _ _ _ own after s (parts.message_goes_on missing k count some are) is =
    let fits : length own + missing ≤ 131071 = s.gathering in
    let octets : List ℕ = take k (left piece n) in
    let own_count : length octets ≡ k = omega (arith, length-take k (left piece n)) in
    let total : length (own ++ octets) + (missing - k) ≡ length own + missing = omega (arith, own_count, count, length-append own octets) in
    let long : length front ≤ length own = omega (arith, ap length s.kept, length-take (length front) own) in
    let all : header Message (length (own ++ octets) + (missing - k)) ++ (own ++ octets) ≡ (header Message (length own + missing) ++ own) ++ octets =
    ap (λ (i : ℕ). header Message i ++ (own ++ octets)) total ∙ sym (append_assoc (header Message (length own + missing)) own octets) in
    record {
      so_far = record {
        within = omega (arith, s.within, count, left_length piece n s.within);
        gathering = omega (arith, fits, ap length is, total);
        joined = ap (λ (xs : List ℕ). holding (header Message (length xs + (missing - k)) ++ xs)) is ∙ ap holding all ∙ further piece first (stream_state (inside missing) own) n k s.within s.joined;
        kept = ap (take (length front)) is ∙ take-append-le (length front) own octets long ∙ s.kept;
      };
      nearer = omega (arith, s.within, count, some, left_length piece n s.within);
    }

-- ---- a part that ends

-- what was held at first
record Held (first : StreamState) (octets now : List ℕ) : Type 0 where
  held : List ℕ
  is : first ≡ holding held
  all : now ≡ held ++ octets

held_at_first : (first : StreamState) (octets now : List ℕ) → holding now ≡ gone_on first octets → Held first octets now
held_at_first (holding held) octets now e = record { held = held; is = refl; all = cc }
held_at_first (failed fault) octets now e = absurd cc

takes_by : (piece : List ℕ) (first held after : StreamState) (outcome : Taken) → first ≡ held → Takes piece held outcome after → Takes piece first outcome after
takes_by piece first held after outcome e takes = subst (λ (s : StreamState). Takes piece s outcome after) (sym e) takes

-- what was held at first, and a packet's other octets
whole_packet : (piece : List ℕ) (first : StreamState) (n k : ℕ) (now : List ℕ) (packet : PacketValue) → n ≤ length piece → k ≤ length (left piece n) → holding now ≡ gone_on first (take n piece) → IsPacket packet → now ++ take k (left piece n) ≡ text packet
    → Takes piece first (Ok (n + k, Some packet)) (holding [])
whole_packet piece first n k now packet within fits joined is whole =
    let h = held_at_first first (take n piece) now joined in
    takes_by piece first (holding h.held) (holding []) (Ok (n + k, Some packet)) h.is
    (packet_is_whole h.held (n + k) packet (omega (arith, within, fits, left_length piece n within)) is
    (ap (λ (xs : List ℕ). h.held ++ xs) (sym (two_takes piece n k within)) ∙ sym (append_assoc h.held (take n piece) (take k (left piece n))) ∙ ap (λ (xs : List ℕ). xs ++ take k (left piece n)) (sym h.all) ∙ whole))

-- what was held at first, and the piece
piece_held : (piece : List ℕ) (first : StreamState) (n : ℕ) (octets now : List ℕ) → n ≡ length piece → octets ≡ piece → holding now ≡ gone_on first octets → IsPartial now → ((f : Fault) → HasFault now f → ⊥) → Takes piece first (Ok (n, None)) (holding now)
piece_held piece first n octets now count is joined partial none =
    let h = held_at_first first octets now joined in
    let all : now ≡ h.held ++ piece = h.all ∙ ap (λ (xs : List ℕ). h.held ++ xs) is in
    takes_by piece first (holding h.held) (holding now) (Ok (n, None)) h.is
    (subst (λ (xs : List ℕ). Takes piece (holding h.held) (Ok (n, None)) (holding xs)) (sym all)
    (subst (λ (i : ℕ). Takes piece (holding h.held) (Ok (i, None)) (holding (h.held ++ piece))) (sym count)
    (piece_is_held h.held (subst IsPartial all partial) (subst (λ (xs : List ℕ). (f : Fault) → HasFault xs f → ⊥) all none))))

-- the rest of a piece, all of it
all_taken : (piece : List ℕ) (n : ℕ) → n ≤ length piece → take n piece ++ left piece n ≡ piece
all_taken piece n within = ap (λ (xs : List ℕ). take n piece ++ xs) (rest_is piece n within) ∙ take-append-drop n piece

pub after_nothing : (piece : List ℕ) (first : StreamState) (front : List ℕ) (n k : ℕ) (p q : PiecesState) (own : List ℕ) → SoFar piece first front n p own → TakesPart (left piece n) p (Ok (k, None)) q → ((held : List ℕ) → q ≡ between held → length held ≤ 514)
    → IsGathering q own × Takes piece first (Ok (n + k, None)) (stream_state q own)
after_nothing piece first front n _ _ _ own s (parts.message_waits missing some none) most =
    let fits : length own + missing ≤ 131071 = s.gathering in
    let has : HasLength Message (length own + missing) = (omega arith, fits) in
    let short : length own < length own + missing = omega (arith, some) in
    let end : n ≡ length piece = omega (arith, s.within, ap length none, left_length piece n s.within) in
    let all : take n piece ≡ piece = take_all n piece (omega (arith, end)) in
    (fits, piece_held piece first (n + 0) (take n piece) _ (omega (arith, end)) all s.joined (unfilled_is_partial Message (length own + missing) own has short) (λ f. sound Message (length own + missing) own f has (λ is. short)))
after_nothing piece first front n _ _ _ own s (parts.piece_is_held held no_message partial none) most =
    let joined : holding (held ++ left piece n) ≡ gone_on first piece =
    ap (λ (x : StreamState). gone_on x (left piece n)) s.joined ∙ gone_twice first (take n piece) (left piece n) ∙ ap (gone_on first) (all_taken piece n s.within) in
    ((most (held ++ left piece n) refl, s.gathering.1), piece_held piece first (n + length (left piece n)) piece _ (omega (arith, s.within, left_length piece n s.within)) refl joined partial none)

pub after_end : (piece : List ℕ) (first : StreamState) (front : List ℕ) (n k : ℕ) (p q : PiecesState) (own whole after : List ℕ) → SoFar piece first front n p own → AreOctets own → TakesPart (left piece n) p (Ok (k, Some message_end)) q → whole ≡ own → after ≡ []
    → IsGathering q after × Takes piece first (Ok (n + k, Some (message whole))) (stream_state q after)
after_end piece first front n _ _ _ own whole after s are parts.message_ends is empty =
    let fits : length own + 0 ≤ 131071 = s.gathering in
    let same : length own + 0 ≡ length own = omega arith in
    let packet : IsPacket (message own) = (omega (arith, fits), are) in (
      (omega arith, empty),
      subst (λ (xs : List ℕ). Takes piece first (Ok (n + 0, Some (message xs))) (holding [])) (sym is)
          (whole_packet piece first n 0 (header Message (length own + 0) ++ own) (message own) s.within (omega arith) s.joined packet
          (append-nil (header Message (length own + 0) ++ own) ∙ ap (λ (i : ℕ). header Message i ++ own) same)),
    )

pub after_other : (piece : List ℕ) (first : StreamState) (front : List ℕ) (n k : ℕ) (p q : PiecesState) (own : List ℕ) (packet : PacketValue) → SoFar piece first front n p own → TakesPart (left piece n) p (Ok (k, Some (other packet))) q
    → IsGathering q own × Takes piece first (Ok (n + k, Some packet)) (stream_state q own)
after_other piece first front n _ _ _ own _ s (parts.packet_is_whole held k packet within is apart whole) =
    ((omega arith, s.gathering.1), whole_packet piece first n k held packet s.within within s.joined is whole)

failed_at_first : (first : StreamState) (fault : Fault) (octets : List ℕ) → failed fault ≡ gone_on first octets → first ≡ failed fault
failed_at_first (holding held) fault octets e = absurd cc
failed_at_first (failed other_fault) fault octets e = sym e

pub after_fault : (piece : List ℕ) (first : StreamState) (front : List ℕ) (n : ℕ) (fault : StreamFault) (p q : PiecesState) (p0 : PiecesState) (own : List ℕ) → stream_state p0 front ≡ first → SoFar piece first front n p own → TakesPart (left piece n) p (Err fault) q
    → Gathers piece p0 front (Err fault) q own
after_fault piece first front n _ _ _ p0 own e s (parts.fault_is_seen held fault has) =
    let h = held_at_first first (take n piece) held s.joined in
    let all : held ++ left piece n ≡ h.held ++ piece = ap (λ (xs : List ℕ). xs ++ left piece n) h.all ∙ append_assoc h.held (take n piece) (left piece n) ∙ ap (λ (xs : List ℕ). h.held ++ xs) (all_taken piece n s.within) in
    (tt, takes_by piece (stream_state p0 front) (holding h.held) (failed fault) (Err (Malformed fault)) (e ∙ h.is) (fault_is_seen h.held fault (subst (λ (xs : List ℕ). HasFault xs fault) all has)))
after_fault piece first front n _ _ _ p0 own e s (parts.fault_stays fault) =
    (tt, takes_by piece (stream_state p0 front) (failed fault) (failed fault) (Err (Malformed fault)) (e ∙ failed_at_first first fault (take n piece) s.joined) (fault_stays fault))

pub after_refusal : (piece : List ℕ) (front : List ℕ) (n k : ℕ) (octets : List ℕ) (p q : PiecesState) (p0 : PiecesState) (own after : List ℕ) → SoFar piece (stream_state p0 front) front n p own → TakesPart (left piece n) p (Ok (k, Some (message_data octets))) q → after ≡ own
    → Gathers piece p0 front (Err OutOfMemory) q after
after_refusal piece front n _ _ _ _ p0 own after s (parts.message_goes_on missing k count some are) same =
    let h = held_at_first (stream_state p0 front) (take n piece) (header Message (length own + missing) ++ own) s.joined in
    (ap (take (length front)) same ∙ s.kept, h.held, h.is)

-- ---- as the stream has it

pub refused_at : (piece : List ℕ) (before : StreamState) (p q new : PiecesState) (own gathered after : List ℕ) → stream_state p own ≡ before → Gathers piece p own (Err OutOfMemory) new gathered → q ≡ p → after ≡ take (length own) gathered → Takes piece before (Err OutOfMemory) (stream_state q after)
refused_at piece before p q new own gathered after view g same front =
    let state : stream_state q after ≡ holding g.1 = ap (λ (x : PiecesState). stream_state x after) same ∙ ap (stream_state p) (front ∙ g.0) ∙ g.2 in
    takes_by piece before (holding g.1) (stream_state q after) (Err OutOfMemory) (sym view ∙ g.2) (subst (λ (s : StreamState). Takes piece (holding g.1) (Err OutOfMemory) s) (sym state) (memory_is_refused g.1))
