-- What the parts of octets make, up to the end of one packet.
use Rattle.std.proofs.Common.{◌≡◌, ℕ, zero, suc, ◌+◌, ◌-◌, ◌*◌, ◌<◌, ◌≤◌, List, [], ◌∷◌, ◌++◌, length, take, drop, Result, Some, None, Ok, Err, refl, sym, ap, subst, ◌∙◌, arith, append_assoc}
use Rattle.std.proofs.Math.Seq.{take-add}
use Rattle.std.proofs.lemmas.List.{length-append, length-take, length-drop, append-nil, take-append-drop, take_all, drop-take}
use Rattle.nbt_name.specs.Wire.{AreOctets}
use Rattle.nbt_session.specs.declared.fault.Fault.{Fault}
use Rattle.nbt_session.specs.declared.fault.StreamFault.{StreamFault}
use Rattle.nbt_session.specs.declared.fault.StreamFault.TheVariants.{Malformed}
use Rattle.nbt_session.specs.declared.packet.PacketType.TheVariants.{Message}
use Rattle.nbt_session.specs.Packet.{PacketValue, message, header, text}
use Rattle.nbt_session.specs.Parts.{message_start, message_data, message_end, other, PiecesState, between, inside, faulty, TakesPart, message_starts, message_goes_on, message_waits, message_ends, packet_is_whole, piece_is_held, fault_is_seen, fault_stays}
use Rattle.nbt_session.specs.Stream.{Begins, IsPartial, HasFault}

AreOctets-append : (xs ys : List ℕ) → AreOctets xs → AreOctets ys → AreOctets (xs ++ ys)
AreOctets-append [] ys fx fy k = fy k
AreOctets-append (x ∷ xs) ys fx fy zero = fx zero
AreOctets-append (x ∷ xs) ys fx fy (suc k) = AreOctets-append xs ys (λ i. fx (suc i)) fy k

-- the octets that aren't taken
abbrev left : List ℕ → ℕ → List ℕ
left octets n = take (length octets - n) (drop n octets)

pub left_is : (octets : List ℕ) (n : ℕ) → left octets n ≡ drop n octets
left_is octets n = take_all (length octets - n) (drop n octets) (omega (arith, length-drop n octets))

left_length : (octets : List ℕ) (n : ℕ) → length (left octets n) ≡ length octets - n
left_length octets n = ap length (left_is octets n) ∙ length-drop n octets

two_takes : (octets : List ℕ) (n k : ℕ) → take n octets ++ take k (left octets n) ≡ take (n + k) octets
two_takes octets n k = ap (λ (xs : List ℕ). take n octets ++ take k xs) (left_is octets n) ∙ sym (take-add n k octets)

-- ---- the octets taken so far

-- a message's header, and some of its octets
pub record InMessage (octets : List ℕ) (begin n missing : ℕ) : Type 0 where
  pub size : ℕ
  pub own : List ℕ
  pub begins : begin ≡ 4
  pub fits : size ≤ 131071
  pub are : AreOctets own
  pub count : length own + missing ≡ size
  pub taken : take n octets ≡ header Message size ++ own

abbrev pub StandsAt : List ℕ → ℕ → ℕ → PiecesState → Type 0
StandsAt octets begin n (between held) = (held ≡ []) × (n ≡ 0)
StandsAt octets begin n (inside missing) = InMessage octets begin n missing
StandsAt octets begin n (faulty fault) = ⊥

pub record SoFar (octets : List ℕ) (begin n : ℕ) (p : PiecesState) : Type 0 where
  pub within : n ≤ length octets
  pub order : begin ≤ n
  pub stands : StandsAt octets begin n p

pub at_first : (octets : List ℕ) (p : PiecesState) → p ≡ between [] → SoFar octets 0 0 p
at_first octets p e = record {
  within = omega arith;
  order = omega arith;
  stands = subst (λ (s : PiecesState). StandsAt octets 0 0 s) (sym e) (refl, refl);
}

-- how far the end is: two for each octet, and one before a message's header
abbrev pub distance : PiecesState → ℕ → ℕ
distance (between held) n = n * 2 + 1
distance (inside missing) n = n * 2
distance (faulty fault) n = n * 2

pub record Onward (octets : List ℕ) (begin n k : ℕ) (p q : PiecesState) : Type 0 where
  pub so_far : SoFar octets begin (n + k) q
  pub nearer : distance q (length octets - (n + k)) < distance p (length octets - n)

take_none : (xs : List ℕ) → take 0 xs ≡ []
take_none [] = refl
take_none (x ∷ xs) = refl

drop_none : (xs : List ℕ) → drop 0 xs ≡ xs
drop_none [] = refl
drop_none (x ∷ xs) = refl

-- where nothing came yet, octets that are taken begin there
first_octets : (octets held : List ℕ) (n k : ℕ) → held ≡ [] → n ≡ 0 → held ++ take k (left octets n) ≡ take (n + k) octets
first_octets octets held n k none begin =
    let same : held ≡ take n octets = none ∙ sym (ap (λ (i : ℕ). take i octets) begin ∙ take_none octets) in
    ap (λ (xs : List ℕ). xs ++ take k (left octets n)) same ∙ two_takes octets n k

pub after_start : (octets : List ℕ) (begin n k size : ℕ) (p q : PiecesState) → SoFar octets begin n p → TakesPart (left octets n) p (Ok (k, Some (message_start size))) q
    → Onward octets (n + k) n k p q
after_start octets begin n _ _ _ _ s (message_starts held k size within fits whole) =
    let taken : take (n + k) octets ≡ header Message size ++ [] = sym (first_octets octets held n k s.stands.0 s.stands.1) ∙ whole ∙ sym (append-nil (header Message size)) in
    let inside_octets : n + k ≤ length octets = omega (arith, s.within, within, left_length octets n) in
    let stands : InMessage octets (n + k) (n + k) size = record {
      size = size;
      own = [];
      begins = omega (arith, ap length taken, length-take (n + k) octets, inside_octets);
      fits = fits;
      are = λ i. omega arith;
      count = omega arith;
      taken = taken;
    } in
    record {
      so_far = record { within = inside_octets; order = omega arith; stands = stands };
      nearer = omega (arith, s.within, within, left_length octets n);
    }

pub after_data : (octets : List ℕ) (begin n k : ℕ) (more : List ℕ) (p q : PiecesState) → SoFar octets begin n p → TakesPart (left octets n) p (Ok (k, Some (message_data more))) q
    → Onward octets begin n k p q
after_data octets begin n _ _ _ _ s (message_goes_on missing k count some are) =
    let m : InMessage octets begin n missing = s.stands in
    let more : List ℕ = take k (left octets n) in
    let long : length more ≡ k = omega (arith, length-take k (left octets n), count) in
    let stands : InMessage octets begin (n + k) (missing - k) = record {
      size = m.size;
      own = m.own ++ more;
      begins = m.begins;
      fits = m.fits;
      are = AreOctets-append m.own more m.are are;
      count = omega (arith, m.count, long, count, length-append m.own more);
      taken = sym (two_takes octets n k) ∙ ap (λ (xs : List ℕ). xs ++ more) m.taken ∙ append_assoc (header Message m.size) m.own more;
    } in
    record {
      so_far = record { within = omega (arith, s.within, count, left_length octets n); order = omega (arith, s.order); stands = stands };
      nearer = omega (arith, s.within, count, some, left_length octets n);
    }

-- ---- a packet is whole, or none is

pub record Found (octets : List ℕ) (n : ℕ) (packet : PacketValue) (q : PiecesState) : Type 0 where
  pub within : n ≤ length octets
  pub begins : Begins octets packet (drop n octets)
  pub anew : q ≡ between []

behind_header : (size : ℕ) (own : List ℕ) → drop 4 (header Message size ++ own) ≡ own
behind_header size own = refl

-- the octets of a message are those behind its header
own_octets : (octets : List ℕ) (begin n missing : ℕ) (m : InMessage octets begin n missing) → begin ≤ n → take (n - begin) (drop begin octets) ≡ m.own
own_octets octets begin n missing m order =
    let split : begin + (n - begin) ≡ n = omega (arith, order) in
    sym (drop-take begin (n - begin) octets) ∙ ap (λ (i : ℕ). drop begin (take i octets)) split ∙ ap (drop begin) m.taken ∙ ap (λ (i : ℕ). drop i (header Message m.size ++ m.own)) m.begins ∙ behind_header m.size m.own

pub message_found : (octets : List ℕ) (begin n k : ℕ) (own : List ℕ) (p q : PiecesState) → SoFar octets begin n p → TakesPart (left octets n) p (Ok (k, Some message_end)) q → own ≡ take (n + k - begin) (drop begin octets)
    → Found octets (n + k) (message own) q
message_found octets begin n _ own _ _ s message_ends is =
    let m : InMessage octets begin n 0 = s.stands in
    let same : n + 0 ≡ n = omega arith in
    let same_octets : own ≡ m.own = is ∙ ap (λ (i : ℕ). take (i - begin) (drop begin octets)) same ∙ own_octets octets begin n 0 m s.order in
    let size : m.size ≡ length m.own = omega (arith, m.count) in
    let whole : octets ≡ text (message m.own) ++ drop (n + 0) octets =
    sym (take-append-drop n octets) ∙ ap (λ (xs : List ℕ). xs ++ drop n octets) m.taken ∙ ap (λ (i : ℕ). (header Message i ++ m.own) ++ drop n octets) size ∙ ap (λ (i : ℕ). text (message m.own) ++ drop i octets) (sym same) in
    record {
      within = omega (arith, s.within);
      begins = subst (λ (xs : List ℕ). Begins octets (message xs) (drop (n + 0) octets)) (sym same_octets) ((omega (arith, m.fits, size), m.are), whole);
      anew = refl;
    }

pub other_found : (octets : List ℕ) (begin n k : ℕ) (packet : PacketValue) (p q : PiecesState) → SoFar octets begin n p → TakesPart (left octets n) p (Ok (k, Some (other packet))) q
    → Found octets (n + k) packet q
other_found octets begin n _ _ _ _ s (packet_is_whole held k packet within is apart whole) =
    let taken : take (n + k) octets ≡ text packet = sym (first_octets octets held n k s.stands.0 s.stands.1) ∙ whole in
    record {
      within = omega (arith, s.within, within, left_length octets n);
      begins = (is, sym (take-append-drop (n + k) octets) ∙ ap (λ (xs : List ℕ). xs ++ drop (n + k) octets) taken);
      anew = refl;
    }

-- the octets that are given where nothing came yet
all_octets : (octets held : List ℕ) (n : ℕ) → held ≡ [] → n ≡ 0 → held ++ left octets n ≡ octets
all_octets octets held n none begin = ap (λ (xs : List ℕ). xs ++ left octets n) none ∙ ap (λ (i : ℕ). left octets i) begin ∙ left_is octets 0 ∙ drop_none octets

-- a message that lacks octets is no packet, and has no fault
abbrev pub Lacks : Type 0
Lacks = (size : ℕ) (octets : List ℕ) → size ≤ 131071 → length octets < size
    → IsPartial (header Message size ++ octets) × ((fault : Fault) → ¬ HasFault (header Message size ++ octets) fault)

pub none_found : Lacks → (octets : List ℕ) (begin n k : ℕ) (p q : PiecesState) → SoFar octets begin n p → TakesPart (left octets n) p (Ok (k, None)) q
    → IsPartial octets × ((fault : Fault) → ¬ HasFault octets fault)
none_found lacks octets begin n _ _ _ s (message_waits missing some none) =
    let m : InMessage octets begin n missing = s.stands in
    let end : length octets ≤ n = omega (arith, ap length none, left_length octets n) in
    let all : header Message m.size ++ m.own ≡ octets = sym m.taken ∙ take_all n octets end in
    subst (λ (xs : List ℕ). IsPartial xs × ((fault : Fault) → ¬ HasFault xs fault)) all (lacks m.size m.own m.fits (omega (arith, some, m.count)))
none_found lacks octets begin n _ _ _ s (piece_is_held held no_message partial none) =
    subst (λ (xs : List ℕ). IsPartial xs × ((fault : Fault) → ¬ HasFault xs fault)) (all_octets octets held n s.stands.0 s.stands.1) (partial, none)

pub fault_found : (octets : List ℕ) (begin n : ℕ) (e : StreamFault) (p q : PiecesState) → SoFar octets begin n p → TakesPart (left octets n) p (Err e) q → (fault : Fault) → e ≡ Malformed fault → HasFault octets fault
fault_found octets begin n _ _ _ s (fault_is_seen held fault has) other_fault is =
    let same : fault ≡ other_fault = cc in
    subst (λ (xs : List ℕ). HasFault xs other_fault) (all_octets octets held n s.stands.0 s.stands.1) (subst (λ (f : Fault). HasFault (held ++ left octets n) f) same has)
fault_found octets begin n _ _ _ s (fault_stays fault) other_fault is = absurd s.stands

-- what the exit of a `?` returns is the fault that came
pub fault_returned : {T : Type 0} (r : Result T StreamFault) (y e : StreamFault) (fault : Fault) → r ≡ Err y → y ≡ e → r ≡ Err (Malformed fault) → e ≡ Malformed fault
fault_returned r y e fault one two is = cc
