-- The packets that data are split into have room in 576 octets each, and are written.
use Rattle.nbt_c.proofs.Common.{◌≡◌, ℕ, ◌<◌, ◌≤◌, List, length, map, get_or, Some, None, Result, Ok, Err, refl, ap, ◌∙◌, subst, arith, zero, suc, ◌↔◌, slice_get, IsOk, IsErr, OnOk, slice_get-map, slice_get_past, slice_get_read, length-append, Addr, Dgram, FragmentValue, DgramValue, dgram_of, one, front_of, back_of, size_of, packet, Splits, in_one, in_two, IsSplit, names_text, Fits}
use Rattle.std.specs.Option.{option_map}
use Rattle.nbt_dgram.specs.declared.dgram.Names.{Names}
use Rattle.nbt_dgram.specs.declared.msg_type.Delivery.{Delivery}
use Rattle.nbt_dgram.specs.Text.{text}

-- a packet that can be written, in 576 octets
abbrev pub HasRoom : DgramValue → Type 0
HasRoom d = Fits d × (length (text d) ≤ 576)

fragment_has_room : (id : ℕ) (own : Addr) (f : FragmentValue) → size_of f ≤ 576 → HasRoom (packet id own f)
fragment_has_room id own f few = (omega (arith, few), omega (arith, few, length-append (names_text f.part) f.payload))

at_place : (id : ℕ) (own : Addr) (f : FragmentValue) (d : DgramValue) → size_of f ≤ 576 → Some (packet id own f) ≡ Some d → HasRoom d
at_place id own f d few e = let same : packet id own f ≡ d = cc in subst HasRoom same (fragment_has_room id own f few)

each_has_room : (delivery : Delivery) (id : ℕ) (own : Addr) (names : Names) (payload : List ℕ) (fragments : List FragmentValue) → Splits delivery names payload fragments → length payload ≤ 512 → (k : ℕ) (d : DgramValue)
    → slice_get (map (packet id own) fragments) k ≡ Some d → HasRoom d
each_has_room delivery id own names _ _ (in_one payload few) short zero d e = at_place id own (one delivery names payload) d few e
each_has_room delivery id own names _ _ (in_one payload few) short (suc k) d e = absurd cc
each_has_room delivery id own names _ _ (in_two front back above exact) short zero d e = at_place id own (front_of delivery names front) d (omega (arith, exact)) e
each_has_room delivery id own names _ _ (in_two front back above exact) short (suc zero) d e = at_place id own (back_of delivery (length front) back) d (omega (arith, short, length-append front back)) e
each_has_room delivery id own names _ _ (in_two front back above exact) short (suc (suc k)) d e = absurd cc

pub packets_have_room : (delivery : Delivery) (id : ℕ) (own : Addr) (names : Names) (payload : List ℕ) (packets : List DgramValue) → length payload ≤ 512 → IsSplit delivery id own names payload packets → (k : ℕ) (d : DgramValue)
    → slice_get packets k ≡ Some d → HasRoom d
packets_have_room delivery id own names payload packets short is k d e =
    each_has_room delivery id own names payload is.fragments is.cut short k d (subst (λ (ds : List DgramValue). slice_get ds k ≡ Some d) is.packets_are e)

-- ---- the packet with a number

pub found_packet : (packets : List Dgram) (which : ℕ) (packet : Dgram) → which < length packets → packet ≡ get_or packets which packet → slice_get (map dgram_of packets) which ≡ Some (dgram_of packet)
found_packet packets which packet there is = slice_get-map dgram_of packets which ∙ ap (option_map dgram_of) (slice_get_read packets (length packets) which packet refl there is)

pub no_packet : (packets : List Dgram) (which : ℕ) → length packets ≤ which → slice_get (map dgram_of packets) which ≡ None
no_packet packets which past = slice_get-map dgram_of packets which ∙ ap (option_map dgram_of) (slice_get_past packets which past)

-- it is written, since it has room
pub is_done : {E : Type 0} (r : Result (Unit {0}) E) (n : ℕ) → (IsErr r ↔ (576 < n)) → n ≤ 576 → IsOk r
is_done (Ok u) n full few = refl
is_done (Err e) n full few = absurd (omega (arith, few, full.0 refl))

pub written_so : {E : Type 0} (r : Result (Unit {0}) E) (P : Type 0) (n : ℕ) → OnOk r P → (IsErr r ↔ (576 < n)) → n ≤ 576 → P
written_so (Ok u) P n holds full few = holds
written_so (Err e) P n holds full few = absurd (omega (arith, few, full.0 refl))
