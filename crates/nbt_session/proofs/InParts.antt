-- A stream's parts, put together, are its packets and its rest.
use Rattle.std.proofs.Common.{◌≡◌, ℕ, zero, suc, ◌-◌, ◌<◌, ◌≤◌, List, [], ◌∷◌, ◌++◌, length, take, Option, Some, None, Ok, Err, refl, sym, ap, subst, ◌∙◌, arith, append_assoc}
use Rattle.std.specs.List.{flat_map}
use Rattle.std.proofs.lemmas.List.{length-append, length-take, append-nil, take_all}
use Rattle.nbt_name.specs.Wire.{AreOctets}
use Rattle.nbt_session.specs.declared.fault.Fault.{Fault}
use Rattle.nbt_session.specs.declared.fault.StreamFault.TheVariants.{Malformed}
use Rattle.nbt_session.specs.declared.packet.PacketType.TheVariants.{Message}
use Rattle.nbt_session.specs.Packet.{PacketValue, message, IsPacket, header, text}
use Rattle.nbt_session.specs.Parts.{PartValue, message_start, message_data, message_end, other, PiecesState, between, inside, faulty, TakesPart, message_starts, message_goes_on, message_waits, message_ends, packet_is_whole, piece_is_held, fault_is_seen, fault_stays, PartsRun, ends, answers, waits, held_in, octets_in, DataIs, no_more, one_more, PutTogether, nothing, one_other, message_ended, message_whole, message_lacks}
use Rattle.nbt_session.specs.Stream.{IsPartial, StreamIs, HasFault}
use Rattle.nbt_session.proofs.Comings.{unfilled_is_partial}
use Rattle.nbt_session.proofs.Streams.{NoFault, nothing_is_partial, packet_first, stream_by}

-- ---- a call

pub each_call : (piece : List ℕ) (n : ℕ) (part : Option PartValue) (before after : PiecesState) → TakesPart piece before (Ok (n, part)) after → held_in before ++ take n piece ≡ octets_in part ++ held_in after
each_call piece _ _ _ _ (message_starts held n size within fits whole) = whole ∙ sym (append-nil (header Message size))
each_call piece _ _ _ _ (message_goes_on missing n count some octets) = sym (append-nil (take n piece))
each_call piece _ _ _ _ (message_waits missing some none) = refl
each_call piece _ _ _ _ message_ends = refl
each_call piece _ _ _ _ (packet_is_whole held n packet within is other_type whole) = whole ∙ sym (append-nil (text packet))
each_call piece _ _ _ _ (piece_is_held held other_type partial none) = ap (λ (xs : List ℕ). held ++ xs) (take_all (length piece) piece (omega arith))

-- ---- a run

-- what comes of octets: packets, and what is left
pub record Gathered (octets : List ℕ) (parts : List PartValue) (u : PiecesState) : Type 0 where
  pub packets : List PacketValue
  pub begun : List ℕ
  pub put : PutTogether parts packets begun
  pub stream : StreamIs octets packets (begun ++ held_in u)
  pub settled : (held : List ℕ) → u ≡ between held → begun ≡ []

-- what comes of octets in a message that lacks some
data Within (u : PiecesState) (missing : ℕ) (octets : List ℕ) (parts : List PartValue) : Type 0 where
  goes_past : (own more : List ℕ) (others : List PartValue) → DataIs parts own (message_end ∷ others) → AreOctets own → length own ≡ missing → octets ≡ own ++ more → Gathered more others u
      → Within u missing octets parts
  is_full : (left : ℕ) → DataIs parts octets [] → AreOctets octets → length octets ≡ missing → u ≡ inside left → Within u missing octets parts
  is_short : (left : ℕ) → DataIs parts octets [] → AreOctets octets → length octets < missing → u ≡ inside left → Within u missing octets parts

abbrev Outcome : PiecesState → List ℕ → List PartValue → PiecesState → Type 0
Outcome (between held) octets parts u = IsPartial held → Gathered (held ++ octets) parts u
Outcome (inside missing) octets parts u = Within u missing octets parts
Outcome (faulty fault) octets parts u = Unit {0}

-- octets that are the same
gathered_by : (a b : List ℕ) (parts : List PartValue) (u : PiecesState) → a ≡ b → Gathered a parts u → Gathered b parts u
gathered_by a b parts u e g = subst (λ (xs : List ℕ). Gathered xs parts u) e g

AreOctets-append : (xs ys : List ℕ) → AreOctets xs → AreOctets ys → AreOctets (xs ++ ys)
AreOctets-append [] ys fx fy k = fy k
AreOctets-append (x ∷ xs) ys fx fy zero = fx zero
AreOctets-append (x ∷ xs) ys fx fy (suc k) = AreOctets-append xs ys (λ i. fx (suc i)) fy k

-- a message in front of a stream
message_first : (octets more : List ℕ) (packets : List PacketValue) (rest : List ℕ) → length octets ≤ 131071 → AreOctets octets → StreamIs more packets rest → StreamIs (header Message (length octets) ++ (octets ++ more)) (message octets ∷ packets) rest
message_first octets more packets rest fits are s =
    stream_by _ _ _ _ (append_assoc (header Message (length octets)) octets more) (packet_first (message octets) more packets rest (fits, are) s)

-- after a message's header
started : (size : ℕ) (octets : List ℕ) (parts : List PartValue) (u : PiecesState) → size ≤ 131071 → Within u size octets parts → Gathered (header Message size ++ octets) (message_start size ∷ parts) u
started size octets parts u fits (goes_past own more others are_data are count is g) =
    let whole : header Message (length own) ++ (own ++ more) ≡ header Message size ++ octets = ap (λ (n : ℕ). header Message n ++ (own ++ more)) count ∙ ap (λ (xs : List ℕ). header Message size ++ xs) (sym is) in
    record {
      packets = message own ∷ g.packets;
      begun = g.begun;
      put = subst (λ (n : ℕ). PutTogether (message_start n ∷ parts) (message own ∷ g.packets) g.begun) count (message_ended own g.begun parts others g.packets are_data g.put);
      stream = stream_by _ _ _ _ whole (message_first own more g.packets (g.begun ++ held_in u) (omega (arith, count)) are g.stream);
      settled = g.settled;
    }
started size octets parts u fits (is_full left are_data are count at) =
    let whole : header Message (length octets) ++ (octets ++ []) ≡ header Message size ++ octets = ap (λ (n : ℕ). header Message n ++ (octets ++ [])) count ∙ ap (λ (xs : List ℕ). header Message size ++ xs) (append-nil octets) in
    let none : [] ++ held_in u ≡ [] = ap (λ (s : PiecesState). held_in s) at in
    record {
      packets = message octets ∷ [];
      begun = [];
      put = subst (λ (n : ℕ). PutTogether (message_start n ∷ parts) (message octets ∷ []) []) count (message_whole octets parts are_data);
      stream = stream_by _ _ _ _ whole (message_first octets [] [] ([] ++ held_in u) (omega (arith, count)) are (subst (λ (xs : List ℕ). StreamIs [] [] xs) (sym none) (record { whole = refl; each = tt; partial = nothing_is_partial })));
      settled = λ held e. refl;
    }
started size octets parts u fits (is_short left are_data are short at) =
    let begun : List ℕ = header Message size ++ octets in
    let none : begun ++ held_in u ≡ begun = ap (λ (s : PiecesState). begun ++ held_in s) at ∙ append-nil begun in
    record {
      packets = [];
      begun = begun;
      put = message_lacks size octets parts are_data short;
      stream = subst (λ (xs : List ℕ). StreamIs begun [] xs) (sym none) (record { whole = refl; each = tt; partial = unfilled_is_partial Message size octets (omega arith, fits) short });
      settled = λ held e. let apart : inside left ≡ between held = sym at ∙ e in absurd cc;
    }

-- more octets of a message
gone_on : (missing n : ℕ) (own octets : List ℕ) (parts : List PartValue) (u : PiecesState) → length own ≡ n → n ≤ missing → AreOctets own → Within u (missing - n) octets parts → Within u missing (own ++ octets) (message_data own ∷ parts)
gone_on missing n own octets parts u count le fits (goes_past others_own more others are_data are total is g) =
    goes_past (own ++ others_own) more others (one_more own others_own parts (message_end ∷ others) are_data) (AreOctets-append own others_own fits are) (omega (arith, length-append own others_own))
    (ap (λ (xs : List ℕ). own ++ xs) is ∙ sym (append_assoc own others_own more)) g
gone_on missing n own octets parts u count le fits (is_full left are_data are total at) =
    is_full left (one_more own octets parts [] are_data) (AreOctets-append own octets fits are) (omega (arith, length-append own octets)) at
gone_on missing n own octets parts u count le fits (is_short left are_data are total at) =
    is_short left (one_more own octets parts [] are_data) (AreOctets-append own octets fits are) (omega (arith, length-append own octets)) at

-- a message that ended
ended : (octets : List ℕ) (parts : List PartValue) (u : PiecesState) → Outcome (between []) octets parts u → Within u 0 octets (message_end ∷ parts)
ended octets parts u after = goes_past [] octets parts (no_more (message_end ∷ parts)) (λ k. omega arith) refl refl (after nothing_is_partial)

-- another packet
one_packet : (packet : PacketValue) (octets : List ℕ) (parts : List PartValue) (u : PiecesState) → IsPacket packet → Gathered octets parts u → Gathered (text packet ++ octets) (other packet ∷ parts) u
one_packet packet octets parts u is g = record {
  packets = packet ∷ g.packets;
  begun = g.begun;
  put = one_other packet parts g.packets g.begun g.put;
  stream = packet_first packet octets g.packets (g.begun ++ held_in u) is g.stream;
  settled = g.settled;
}

-- a part, and what comes after it
answered : (piece octets : List ℕ) (n : ℕ) (part : PartValue) (parts : List PartValue) (s t u : PiecesState) → TakesPart piece s (Ok (n, Some part)) t → Outcome t octets parts u → Outcome s (take n piece ++ octets) (part ∷ parts) u
answered piece octets _ _ parts _ _ u (message_starts held n size within fits whole) after =
    λ partial. gathered_by _ _ _ _ (ap (λ (xs : List ℕ). xs ++ octets) (sym whole) ∙ append_assoc held (take n piece) octets) (started size octets parts u fits after)
answered piece octets _ _ parts _ _ u (message_goes_on missing n count some are) after =
    gone_on missing n (take n piece) octets parts u (omega (arith, length-take n piece)) (omega arith) are after
answered piece octets _ _ parts _ _ u message_ends after = ended octets parts u after
answered piece octets _ _ parts _ _ u (packet_is_whole held n packet within is other_type whole) after =
    λ partial. gathered_by _ _ _ _ (ap (λ (xs : List ℕ). xs ++ octets) (sym whole) ∙ append_assoc held (take n piece) octets) (one_packet packet octets parts u is (after nothing_is_partial))

-- no part, and what comes after it
waited : (piece octets : List ℕ) (n : ℕ) (parts : List PartValue) (s t u : PiecesState) → TakesPart piece s (Ok (n, None)) t → Outcome t octets parts u → Outcome s (take n piece ++ octets) parts u
waited piece octets _ parts _ _ u (message_waits missing some none) after = after
waited piece octets _ parts _ _ u (piece_is_held held other_type partial none) after =
    let all : take (length piece) piece ≡ piece = take_all (length piece) piece (omega arith) in
    λ before. gathered_by _ _ _ _ (append_assoc held piece octets ∙ ap (λ (xs : List ℕ). held ++ (xs ++ octets)) (sym all)) (after partial)

-- nothing follows
over : (s : PiecesState) → Outcome s [] [] s
over (between held) = λ partial. record {
  packets = [];
  begun = [];
  put = nothing;
  stream = record { whole = append-nil held; each = tt; partial = partial };
  settled = λ held2 e. refl;
}
over (inside zero) = is_full 0 (no_more []) (λ k. omega arith) refl refl
over (inside (suc n)) = is_short (suc n) (no_more []) (λ k. omega arith) (omega arith) refl
over (faulty fault) = tt

outcome : (s : PiecesState) (octets : List ℕ) (parts : List PartValue) (u : PiecesState) → PartsRun s octets parts u → Outcome s octets parts u
outcome _ _ _ _ (ends s) = over s
outcome _ _ _ _ (answers piece octets n part parts s t u takes run) = answered piece octets n part parts s t u takes (outcome t octets parts u run)
outcome _ _ _ _ (waits piece octets n parts s t u takes run) = waited piece octets n parts s t u takes (outcome t octets parts u run)

pub run_gathers : (octets : List ℕ) (parts : List PartValue) (after : PiecesState) → PartsRun (between []) octets parts after → Gathered octets parts after
run_gathers octets parts after run = outcome (between []) octets parts after run nothing_is_partial

pub run_is_stream : (octets : List ℕ) (parts : List PartValue) (after : PiecesState) → PartsRun (between []) octets parts after
    → (packets : List PacketValue) × (begun : List ℕ) × PutTogether parts packets begun × StreamIs octets packets (begun ++ held_in after)
run_is_stream octets parts after run = let g = run_gathers octets parts after run in (g.packets, g.begun, g.put, g.stream)

-- what is returned in place of a fault leaves none
abbrev IsSound : PiecesState → Type 0
IsSound (between held) = Unit {0}
IsSound (inside missing) = Unit {0}
IsSound (faulty fault) = ⊥

ok_sound : (piece : List ℕ) (n : ℕ) (part : Option PartValue) (s t : PiecesState) → TakesPart piece s (Ok (n, part)) t → IsSound t
ok_sound piece _ _ _ _ (message_starts held n size within fits whole) = tt
ok_sound piece _ _ _ _ _ = tt

run_sound : (s : PiecesState) (octets : List ℕ) (parts : List PartValue) (u : PiecesState) → PartsRun s octets parts u → IsSound s → IsSound u
run_sound _ _ _ _ (ends s) sound = sound
run_sound _ _ _ _ (answers piece octets n part parts s t u takes run) sound = run_sound t octets parts u run (ok_sound piece n (Some part) s t takes)
run_sound _ _ _ _ (waits piece octets n parts s t u takes run) sound = run_sound t octets parts u run (ok_sound piece n None s t takes)

-- a fault after parts
pub fault_is_stream : NoFault → (octets piece : List ℕ) (parts : List PartValue) (before after : PiecesState) (fault : Fault) → PartsRun (between []) octets parts before → TakesPart piece before (Err (Malformed fault)) after
    → (packets : List PacketValue) × PutTogether parts packets [] × StreamIs (octets ++ piece) packets (held_in before ++ piece) × HasFault (held_in before ++ piece) fault
fault_is_stream no_fault octets piece parts _ _ _ run (fault_is_seen held fault has) =
    let g = run_gathers octets parts (between held) run in
    let none : g.begun ≡ [] = g.settled held refl in
    let s : StreamIs octets g.packets held = subst (λ (xs : List ℕ). StreamIs octets g.packets (xs ++ held)) none g.stream in (
      g.packets,
      subst (λ (xs : List ℕ). PutTogether parts g.packets xs) none g.put,
      record {
        whole = ap (λ (xs : List ℕ). xs ++ piece) s.whole ∙ append_assoc (flat_map text g.packets) held piece;
        each = s.each;
        partial = λ p more begins. no_fault (held ++ piece) p more fault begins has;
      },
      has,
    )
fault_is_stream no_fault octets piece parts _ _ _ run (fault_stays fault) = absurd (run_sound (between []) octets parts (faulty fault) run tt)
