-- Octets are packets and a rest in one way, however they are cut into pieces.
use Rattle.std.proofs.Common.{◌≡◌, ℕ, ◌≤◌, List, [], ◌∷◌, ◌++◌, length, take, drop, Some, None, Ok, Err, refl, sym, ap, subst, ◌∙◌, arith, append_assoc}
use Rattle.std.specs.List.{flat_map}
use Rattle.std.proofs.lemmas.List.{append-nil, take-append-drop, length-drop, take_all}
use Rattle.nbt_session.specs.declared.fault.Fault.{Fault}
use Rattle.nbt_session.specs.declared.fault.StreamFault.TheVariants.{Malformed, OutOfMemory}
use Rattle.nbt_session.specs.Packet.{PacketValue, IsPacket, text}
use Rattle.nbt_session.specs.Stream.{Begins, IsPartial, StreamIs, HasFault}
use Rattle.nbt_session.specs.Taking.{StreamState, holding, Taken, Takes, packet_is_whole, piece_is_held, fault_is_seen, fault_stays, memory_is_refused, Run, ends, answers, waits, starves}

-- the laws of texts and faults that are used
abbrev pub OnePacket : Type 0
OnePacket = (octets : List ℕ) (a b : PacketValue) (x y : List ℕ) → Begins octets a x → Begins octets b y → (a ≡ b) × (x ≡ y)

abbrev pub NoFault : Type 0
NoFault = (octets : List ℕ) (packet : PacketValue) (rest : List ℕ) (fault : Fault) → Begins octets packet rest → HasFault octets fault → ⊥

abbrev pub OneFault : Type 0
OneFault = (octets : List ℕ) (a b : Fault) → HasFault octets a → HasFault octets b → a ≡ b

pub one_stream : OnePacket → (octets : List ℕ) (a b : List PacketValue) (x y : List ℕ) → StreamIs octets a x → StreamIs octets b y → (a ≡ b) × (x ≡ y)
one_stream one octets [] [] x y s t = (refl, sym s.whole ∙ t.whole)
one_stream one octets [] (q ∷ qs) x y s t = absurd (s.partial q (flat_map text qs ++ y) (t.each.0, sym s.whole ∙ t.whole ∙ append_assoc (text q) (flat_map text qs) y))
one_stream one octets (p ∷ ps) [] x y s t = absurd (t.partial p (flat_map text ps ++ x) (s.each.0, sym t.whole ∙ s.whole ∙ append_assoc (text p) (flat_map text ps) x))
one_stream one octets (p ∷ ps) (q ∷ qs) x y s t =
    let firsts = one octets p q (flat_map text ps ++ x) (flat_map text qs ++ y) (s.each.0, s.whole ∙ append_assoc (text p) (flat_map text ps) x) (t.each.0, t.whole ∙ append_assoc (text q) (flat_map text qs) y) in
    let others = one_stream one (flat_map text ps ++ x) ps qs x y (record { whole = refl; each = s.each.1; partial = s.partial }) (record { whole = firsts.1; each = t.each.1; partial = t.partial }) in
    let head : p ≡ q = firsts.0 in
    let tail : ps ≡ qs = others.0 in
    (cc, others.1)

pub nothing_is_partial : IsPartial []
nothing_is_partial p rest (is, e) = cc

-- a packet's text in front of a stream
pub packet_first : (p : PacketValue) (octets : List ℕ) (packets : List PacketValue) (rest : List ℕ) → IsPacket p → StreamIs octets packets rest → StreamIs (text p ++ octets) (p ∷ packets) rest
packet_first p octets packets rest is s = record {
  whole = ap (λ (xs : List ℕ). text p ++ xs) s.whole ∙ sym (append_assoc (text p) (flat_map text packets) rest);
  each = (is, s.each);
  partial = s.partial;
}

pub stream_by : (a b : List ℕ) (packets : List PacketValue) (rest : List ℕ) → a ≡ b → StreamIs a packets rest → StreamIs b packets rest
stream_by a b packets rest e s = subst (λ (xs : List ℕ). StreamIs xs packets rest) e s

-- what each answer says of the state
whole_of : {piece held : List ℕ} {n : ℕ} {p : PacketValue} {s t : StreamState} → s ≡ holding held → Takes piece s (Ok (n, Some p)) t → (t ≡ holding []) × IsPacket p × (held ++ take n piece ≡ text p)
whole_of {piece} {held} {n} e (packet_is_whole held2 n2 p fits is whole) =
    let same : held ≡ held2 = cc in
    (refl, is, ap (λ (xs : List ℕ). xs ++ take n piece) same ∙ whole)

held_of : {piece held : List ℕ} {n : ℕ} {s t : StreamState} → s ≡ holding held → Takes piece s (Ok (n, None)) t → (t ≡ holding (held ++ piece)) × IsPartial (held ++ piece) × (take n piece ≡ piece)
held_of {piece} {held} e (piece_is_held held2 partial none) =
    let same : held2 ≡ held = cc in
    (ap (λ (xs : List ℕ). holding (xs ++ piece)) same, subst (λ (xs : List ℕ). IsPartial (xs ++ piece)) same partial, take_all (length piece) piece (omega arith))

starved_of : {piece : List ℕ} {s t : StreamState} → Takes piece s (Err OutOfMemory) t → t ≡ s
starved_of (memory_is_refused held) = refl

run_from : (held octets : List ℕ) (packets : List PacketValue) (s u : StreamState) (rest : List ℕ) → s ≡ holding held → u ≡ holding rest → IsPartial held → Run s octets packets u → StreamIs (held ++ octets) packets rest
run_from held _ _ _ _ rest e f partial (ends s) =
    let same : held ≡ rest = cc in
    record { whole = append-nil held ∙ same; each = tt; partial = subst IsPartial same partial }
run_from held _ _ _ _ rest e f partial (answers piece octets n packet packets s t u takes run) =
    let w = whole_of e takes in
    stream_by _ _ _ _ (ap (λ (xs : List ℕ). xs ++ octets) (sym w.2) ∙ append_assoc held (take n piece) octets)
    (packet_first packet octets packets rest w.1 (run_from [] octets packets t u rest w.0 f nothing_is_partial run))
run_from held _ _ _ _ rest e f partial (waits piece octets n packets s t u takes run) =
    let w = held_of e takes in
    stream_by _ _ _ _ (append_assoc held piece octets ∙ ap (λ (xs : List ℕ). held ++ (xs ++ octets)) (sym w.2))
    (run_from (held ++ piece) octets packets t u rest w.0 f w.1 run)
run_from held _ _ _ _ rest e f partial (starves piece octets packets s t u takes run) = run_from held octets packets t u rest (starved_of takes ∙ e) f partial run

pub run_is_stream : (octets : List ℕ) (packets : List PacketValue) (rest : List ℕ) → Run (holding []) octets packets (holding rest) → StreamIs octets packets rest
run_is_stream octets packets rest run = run_from [] octets packets (holding []) (holding rest) rest refl refl nothing_is_partial run

-- a fault after a stream
pub fault_is_stream : NoFault → (octets piece : List ℕ) (packets : List PacketValue) (rest : List ℕ) (fault : Fault) (after : StreamState) → Run (holding []) octets packets (holding rest)
    → Takes piece (holding rest) (Err (Malformed fault)) after → StreamIs (octets ++ piece) packets (rest ++ piece) × HasFault (rest ++ piece) fault
fault_is_stream no_fault octets piece packets rest fault after run (fault_is_seen rest2 fault2 has) =
    let s = run_is_stream octets packets rest run in (
      record {
        whole = ap (λ (xs : List ℕ). xs ++ piece) s.whole ∙ append_assoc (flat_map text packets) rest piece;
        each = s.each;
        partial = λ p more begins. no_fault (rest ++ piece) p more fault begins has;
      },
      has,
    )

-- ---- one answer

begins_by : (held piece : List ℕ) (n : ℕ) (p : PacketValue) → IsPacket p → held ++ take n piece ≡ text p → Begins (held ++ piece) p (drop n piece)
begins_by held piece n p is e =
    (is, ap (λ (xs : List ℕ). held ++ xs) (sym (take-append-drop n piece)) ∙ sym (append_assoc held (take n piece) (drop n piece)) ∙ ap (λ (xs : List ℕ). xs ++ drop n piece) e)

same_end : (piece : List ℕ) (n m : ℕ) → n ≤ length piece → m ≤ length piece → drop n piece ≡ drop m piece → n ≡ m
same_end piece n m a b e = omega (arith, ap length e, length-drop n piece, length-drop m piece)

pub one_answer : OnePacket → NoFault → OneFault → (piece : List ℕ) (before a b : StreamState) (x y : Taken) → Takes piece before x a → Takes piece before y b → (x ≡ Err OutOfMemory → ⊥) → (y ≡ Err OutOfMemory → ⊥)
    → (x ≡ y) × (a ≡ b)
one_answer one no_fault fault piece _ _ _ _ _ (packet_is_whole held n p fits is e) (packet_is_whole held2 m q fits2 is2 e2) h k =
    let same = one (held ++ piece) p q (drop n piece) (drop m piece) (begins_by held piece n p is e) (begins_by held piece m q is2 e2) in
    let count : n ≡ m = same_end piece n m fits fits2 same.1 in
    let packet : p ≡ q = same.0 in
    (cc, refl)
one_answer one no_fault fault piece _ _ _ _ _ (packet_is_whole held n p fits is e) (piece_is_held held2 partial none) h k = absurd (partial p (drop n piece) (begins_by held piece n p is e))
one_answer one no_fault fault piece _ _ _ _ _ (packet_is_whole held n p fits is e) (fault_is_seen held2 f has) h k = absurd (no_fault (held ++ piece) p (drop n piece) f (begins_by held piece n p is e) has)
one_answer one no_fault fault piece _ _ _ _ _ (piece_is_held held partial none) (packet_is_whole held2 n p fits is e) h k = absurd (partial p (drop n piece) (begins_by held piece n p is e))
one_answer one no_fault fault piece _ _ _ _ _ (piece_is_held held partial none) (piece_is_held held2 partial2 none2) h k = (refl, refl)
one_answer one no_fault fault piece _ _ _ _ _ (piece_is_held held partial none) (fault_is_seen held2 f has) h k = absurd (none f has)
one_answer one no_fault fault piece _ _ _ _ _ (fault_is_seen held f has) (packet_is_whole held2 n p fits is e) h k = absurd (no_fault (held ++ piece) p (drop n piece) f (begins_by held piece n p is e) has)
one_answer one no_fault fault piece _ _ _ _ _ (fault_is_seen held f has) (piece_is_held held2 partial none) h k = absurd (none f has)
one_answer one no_fault fault piece _ _ _ _ _ (fault_is_seen held f has) (fault_is_seen held2 g has2) h k =
    let same : f ≡ g = fault (held ++ piece) f g has has2 in
    (cc, cc)
one_answer one no_fault fault piece _ _ _ _ _ (fault_stays f) (fault_stays g) h k = (refl, refl)
one_answer one no_fault fault piece _ _ _ _ _ (memory_is_refused held) _ h k = absurd (h refl)
one_answer one no_fault fault piece _ _ _ _ _ _ (memory_is_refused held) h k = absurd (k refl)
