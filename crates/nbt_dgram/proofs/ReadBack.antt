-- The written form of each datagram that fits is that datagram.
use Rattle.std.proofs.Common.{◌≡◌, ℕ, ◌+◌, ◌^◌, ◌<◌, ◌≤◌, Bool, true, false, List, ◌++◌, length, refl, sym, ap, subst, ◌∙◌, arith, append_assoc}
use Rattle.std.specs.Prelude.{slice_range, slice_index}
use Rattle.std.proofs.Common.{get_or-drop}
use Rattle.std.proofs.lemmas.List.{length-append, take_at}
use Rattle.nbt_name.specs.declared.addr.Addr.{Addr}
use Rattle.nbt_name.specs.Wire.{wire}
use Rattle.nbt_name.specs.Reading.{PlainNameAt}
use Rattle.nbt_dgram.specs.declared.msg_type.MsgType.{MsgType}
use Rattle.nbt_dgram.specs.declared.dgram.Part.{Part}
use Rattle.nbt_dgram.specs.declared.dgram.Part.TheVariants.{First, Later}
use Rattle.nbt_dgram.specs.Numbers.{head_size}
use Rattle.nbt_name.specs.Words.{word, long, word_at, long_at}
use Rattle.nbt_dgram.specs.Fields.{octet_at, first_at, more_at, offset_at, end_at, within}
use Rattle.nbt_dgram.specs.Dgram.{FragmentValue, BodyValue, fragment, error, lookup, DgramValue, type_of, IsTypeAt, NamesAt, PartAt, FragmentAt, BodyAt, DgramIs}
use Rattle.nbt_dgram.specs.Text.{offset_of, names_text, dgm_length, flags_by, flags_of, head, body_text, text, IsPart, BodyHolds, BodyFits, HoldsNumbers, Fits}
use Rattle.nbt_name.proofs.Behind.{Behind, onward, word_back, long_back, word_there, range_there, plain_there}

-- ---- the ten octets that each datagram begins with

record HeadThere (octets : List ℕ) (t : MsgType) (flags id : ℕ) (source : Addr) (xs : List ℕ) : Type 0 where
  type_is : IsTypeAt octets t
  flags_are : octet_at octets 1 ≡ flags
  id_is : word_at octets 2 ≡ id
  ip_is : long_at octets 4 ≡ source.ip
  port_is : word_at octets 8 ≡ source.port
  behind : Behind octets 10 xs

head_there : (t : MsgType) (flags id : ℕ) (source : Addr) (xs : List ℕ) → id < 2 ^ 16 → source.ip < 2 ^ 32 → source.port < 2 ^ 16 → HeadThere (head t flags id source ++ xs) t flags id source xs
head_there t flags id source xs id_fits ip_fits port_fits = record {
  type_is = (omega arith, refl);
  flags_are = refl;
  id_is = word_back id (long source.ip ++ (word source.port ++ xs)) id_fits;
  ip_is = long_back source.ip (word source.port ++ xs) ip_fits;
  port_is = word_back source.port xs port_fits;
  behind = record { is = refl; within = omega arith };
}

-- ---- a fragment

-- its flags
first_of : Part → Bool
first_of (First names) = true
first_of (Later offset) = false

first_flag : (octets : List ℕ) (part : Part) (more : Bool) → octet_at octets 1 ≡ flags_by part more → first_at octets ≡ first_of part
unfolding first_of
first_flag octets (First names) false e = rw e refl
first_flag octets (First names) true e = rw e refl
first_flag octets (Later offset) false e = rw e refl
first_flag octets (Later offset) true e = rw e refl

more_flag : (octets : List ℕ) (part : Part) (more : Bool) → octet_at octets 1 ≡ flags_by part more → more_at octets ≡ more
more_flag octets (First names) false e = rw e refl
more_flag octets (First names) true e = rw e refl
more_flag octets (Later offset) false e = rw e refl
more_flag octets (Later offset) true e = rw e refl

offset_small : (part : Part) → IsPart part → offset_of part < 2 ^ 16
offset_small (First names) is = omega arith
offset_small (Later offset) is = is

-- the names, where there are some, in the octets up to the fragment's end
part_there : (octets counted : List ℕ) (part : Part) (payload : List ℕ) → IsPart part → first_at octets ≡ first_of part → offset_at octets ≡ offset_of part → within octets ≡ counted
    → Behind counted 14 (names_text part ++ payload) → PartAt octets part (14 + length (names_text part))
unfolding first_of
part_there octets counted (First names) payload is first zero same b =
    let s : List ℕ = wire names.source in
    let d : List ℕ = wire names.destination in
    let b0 : Behind counted 14 (s ++ (d ++ payload)) = subst (Behind counted 14) (append_assoc s d payload) b in
    let b1 : Behind counted (14 + length s) (d ++ payload) = onward (length s) s (d ++ payload) refl b0 in
    let next : 14 + length s + length d ≡ 14 + length (s ++ d) = omega (arith, length-append s d) in
    let there : NamesAt counted names (14 + length (s ++ d)) = record {
      named = 14 + length s;
      source = plain_there names.source (d ++ payload) is.0 b0;
      destination = subst (λ (k : ℕ). PlainNameAt counted (14 + length s) names.destination k) next (plain_there names.destination payload is.1 b1);
    } in
    (first, zero, subst (λ (xs : List ℕ). NamesAt xs names (14 + length (s ++ d))) (sym same) there)
part_there octets counted (Later offset) payload is first at same b = (first, sym at, refl)

fragment_there : (octets counted : List ℕ) (f : FragmentValue) (rest : List ℕ) → octets ≡ counted ++ rest → IsPart f.part → dgm_length f < 2 ^ 16 → octet_at octets 1 ≡ flags_by f.part f.more
    → Behind octets 10 (body_text (fragment f) ++ rest) → Behind counted 10 (body_text (fragment f)) → FragmentAt octets f (length counted)
fragment_there octets counted f rest whole is fits flags b c =
    let names : List ℕ = names_text f.part in
    let size : length (body_text (fragment f)) ≡ 4 + length names + length f.payload =
    omega (arith, length-append (word (dgm_length f) ++ word (offset_of f.part) ++ names) f.payload, length-append (word (dgm_length f) ++ word (offset_of f.part)) names) in
    let tail : List ℕ = names ++ (f.payload ++ rest) in
    let parts : body_text (fragment f) ++ rest ≡ word (dgm_length f) ++ (word (offset_of f.part) ++ tail) = simp append_assoc in
    let b0 : Behind octets 10 (word (dgm_length f) ++ (word (offset_of f.part) ++ tail)) = subst (Behind octets 10) parts b in
    let b2 : Behind octets 12 (word (offset_of f.part) ++ tail) = onward 2 (word (dgm_length f)) (word (offset_of f.part) ++ tail) refl b0 in
    let b4 : Behind octets 14 (names ++ (f.payload ++ rest)) = onward 2 (word (offset_of f.part)) tail refl b2 in
    let begin : Behind octets (14 + length names) (f.payload ++ rest) = onward (length names) names (f.payload ++ rest) refl b4 in
    let parts2 : body_text (fragment f) ≡ word (dgm_length f) ++ (word (offset_of f.part) ++ (names ++ f.payload)) = simp append_assoc in
    let c0 : Behind counted 10 (word (dgm_length f) ++ (word (offset_of f.part) ++ (names ++ f.payload))) = subst (Behind counted 10) parts2 c in
    let c4 : Behind counted 14 (names ++ f.payload) = onward 4 (word (dgm_length f) ++ word (offset_of f.part)) (names ++ f.payload) refl c0 in
    let length_is : word_at octets 10 ≡ dgm_length f = word_there (dgm_length f) (word (offset_of f.part) ++ tail) fits b0 in
    let offset_is : offset_at octets ≡ offset_of f.part = word_there (offset_of f.part) tail (offset_small f.part is) b2 in
    let end_is : end_at octets ≡ length counted = omega (arith, length_is, size, c.within) in
    let counted_is : within octets ≡ counted = rw (end_is, whole) (take_at counted rest (length counted) refl) in
    let end_at_payload : end_at octets ≡ 14 + length names + length f.payload = omega (arith, length_is) in
    record {
      begin = 14 + length names;
      whole = omega (arith, end_is, b.within, c.within, length-append (body_text (fragment f)) rest);
      part = part_there octets counted f.part f.payload is (first_flag octets f.part f.more flags) offset_is counted_is c4;
      more = sym (more_flag octets f.part f.more flags);
      payload = sym (ap (λ (k : ℕ). slice_range octets (14 + length names) k) end_at_payload ∙ range_there f.payload rest begin);
      next_is = sym end_is;
    }

-- ---- a datagram

body_there : (octets counted : List ℕ) (body : BodyValue) (rest : List ℕ) → octets ≡ counted ++ rest → BodyHolds body → BodyFits body → octet_at octets 1 ≡ flags_of body
    → Behind octets 10 (body_text body ++ rest) → Behind counted 10 (body_text body) → BodyAt octets body (length counted)
body_there octets counted (fragment f) rest whole is fits flags b c = fragment_there octets counted f rest whole is fits flags b c
body_there octets counted (error code) rest whole is fits flags b c = (sym (ap (λ (xs : List ℕ). slice_index xs 0) b.is) ∙ get_or-drop 10 octets 0 0, omega (arith, c.within))
body_there octets counted (lookup l name) rest whole is fits flags b c = subst (λ (k : ℕ). PlainNameAt octets 10 name k) c.within (plain_there name rest is b)

type_size : (octets : List ℕ) (body : BodyValue) (rest : List ℕ) → Behind octets 10 (body_text body ++ rest) → head_size (type_of body) ≤ length octets
type_size octets (fragment f) rest b = omega (arith, b.within)
type_size octets (error code) rest b = omega (arith, b.within)
type_size octets (lookup l name) rest b = omega (arith, b.within)

pub text_is_read : (d : DgramValue) (rest : List ℕ) → HoldsNumbers d → Fits d → DgramIs (text d ++ rest) d (length (text d))
text_is_read d rest holds fits =
    let t : MsgType = type_of d.body in
    let h = head_there t (flags_of d.body) d.id d.source (body_text d.body ++ rest) holds.0 holds.1 holds.2 in
    let c = head_there t (flags_of d.body) d.id d.source (body_text d.body) holds.0 holds.1 holds.2 in
    record {
      type = h.type_is;
      head = type_size (text d ++ rest) d.body rest h.behind;
      id = sym h.id_is;
      ip = sym h.ip_is;
      port = sym h.port_is;
      body = body_there (text d ++ rest) (text d) d.body rest refl holds.3 fits h.flags_are h.behind c.behind;
    }
