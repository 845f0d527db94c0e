-- Octets have one fault at most, keep it, and don't begin with a packet then.
use Rattle.std.proofs.Common.{◌≡◌, ℕ, ◌/◌, ◌%◌, ◌<◌, ◌≤◌, List, [], ◌∷◌, ◌++◌, length, refl, sym, ap, subst, ◌∙◌, arith, append_assoc}
use Rattle.std.proofs.lemmas.List.{length-append, append-nil}
use Rattle.nbt_name.specs.declared.fault.NameFault.{NameFault}
use Rattle.nbt_name.specs.Wire.{NameValue, IsName, wire}
use Rattle.nbt_name.specs.Reading.{PlainNameAt, PlainFaultAt}
use Rattle.nbt_session.specs.declared.fault.Fault.{Fault}
use Rattle.nbt_session.specs.declared.packet.PacketType.{PacketType}
use Rattle.nbt_session.specs.declared.packet.PacketType.TheVariants.{Request}
use Rattle.nbt_session.specs.Packet.{PacketValue, request, octet_of, HasLength, header, framed, type_of, body_of, IsPacket}
use Rattle.nbt_session.specs.Stream.{Begins, name_fault, RequestFault, called_bad, calling_bad, not_filled, count, HasFault, type_bad, flags_bad, length_bad, request_bad}
use Rattle.nbt_session.proofs.Packets.{NameLaws, octet_apart, most_fits, body_fits, body_short, header_apart, frame_apart}

-- a plain name or a fault stands at a place, in one way
pub record PlainLaws : Type 0 where
  pub one_name : (octets : List ℕ) (place : ℕ) (a b : NameValue) (x y : ℕ) → PlainNameAt octets place a x → PlainNameAt octets place b y → (a ≡ b) × (x ≡ y)
  pub one_fault : (octets : List ℕ) (place : ℕ) (f g : NameFault) → PlainFaultAt octets place f → PlainFaultAt octets place g → f ≡ g
  pub not_both : (octets : List ℕ) (place : ℕ) (name : NameValue) (next : ℕ) (f : NameFault) → PlainNameAt octets place name next → PlainFaultAt octets place f → ⊥

pub stays : (octets more : List ℕ) (f : Fault) → HasFault octets f → HasFault (octets ++ more) f
stays octets more _ (type_bad t rest e unknown) = type_bad t (rest ++ more) (ap (λ (xs : List ℕ). xs ++ more) e) unknown
stays octets more _ (flags_bad kind flags rest e more_bits) = flags_bad kind flags (rest ++ more) (ap (λ (xs : List ℕ). xs ++ more) e) more_bits
stays octets more _ (length_bad kind flags high low rest e one wrong) = length_bad kind flags high low (rest ++ more) (ap (λ (xs : List ℕ). xs ++ more) e) one wrong
stays octets more _ (request_bad body rest f e has bad) =
    request_bad body (rest ++ more) f (ap (λ (xs : List ℕ). xs ++ more) e ∙ append_assoc (framed Request body) rest more) has bad

-- ---- requests

name_at : {octets : List ℕ} {name : NameValue} {next : ℕ} (p q : ℕ) → p ≡ q → PlainNameAt octets p name next → PlainNameAt octets q name next
name_at {octets} {name} {next} p q e at = subst (λ (k : ℕ). PlainNameAt octets k name next) e at

fault_at : {octets : List ℕ} {f : NameFault} (p q : ℕ) → p ≡ q → PlainFaultAt octets p f → PlainFaultAt octets q f
fault_at {octets} {f} p q e at = subst (λ (k : ℕ). PlainFaultAt octets k f) e at

one_request_fault : PlainLaws → (body : List ℕ) (f g : Fault) → RequestFault body f → RequestFault body g → f ≡ g
one_request_fault laws body _ _ (called_bad f at) (called_bad g at2) = ap name_fault (laws.one_fault body 0 f g at at2)
one_request_fault laws body _ _ (called_bad f at) (calling_bad called next g name at2) = absurd (laws.not_both body 0 called next f name at)
one_request_fault laws body _ _ (called_bad f at) (not_filled called calling next end name name2 short) = absurd (laws.not_both body 0 called next f name at)
one_request_fault laws body _ _ (calling_bad called next g name at2) (called_bad f at) = absurd (laws.not_both body 0 called next f name at)
one_request_fault laws body _ _ (calling_bad called next f name at) (calling_bad called2 next2 g name2 at2) =
    ap name_fault (laws.one_fault body next f g at (fault_at next2 next (laws.one_name body 0 called2 called next2 next name2 name).1 at2))
one_request_fault laws body _ _ (calling_bad called next f name at) (not_filled called2 calling next2 end name2 name3 short) =
    absurd (laws.not_both body next calling end f (name_at next2 next (laws.one_name body 0 called2 called next2 next name2 name).1 name3) at)
one_request_fault laws body _ _ (not_filled called calling next end name name2 short) (called_bad f at) = absurd (laws.not_both body 0 called next f name at)
one_request_fault laws body _ _ (not_filled called2 calling next2 end name2 name3 short) (calling_bad called next f name at) =
    absurd (laws.not_both body next calling end f (name_at next2 next (laws.one_name body 0 called2 called next2 next name2 name).1 name3) at)
one_request_fault laws body _ _ (not_filled called calling next end name name2 short) (not_filled called2 calling2 next2 end2 name3 name4 short2) = refl

-- names that fill the octets are no fault
filled : PlainLaws → (body : List ℕ) (called calling : NameValue) (middle : ℕ) (f : Fault) → PlainNameAt body 0 called middle → PlainNameAt body middle calling (length body) → RequestFault body f → ⊥
filled laws body called calling middle _ first second (called_bad f at) = laws.not_both body 0 called middle f first at
filled laws body called calling middle _ first second (calling_bad other next f name at) =
    laws.not_both body middle calling (length body) f second (fault_at next middle (laws.one_name body 0 other called next middle name first).1 at)
filled laws body called calling middle _ first second (not_filled other other2 next end name name2 short) =
    let ends = laws.one_name body middle other2 calling end (length body) (name_at next middle (laws.one_name body 0 other called next middle name first).1 name2) second in
    omega (arith, ends.1)

name_until : {octets : List ℕ} {place : ℕ} {name : NameValue} (x y : ℕ) → x ≡ y → PlainNameAt octets place name x → PlainNameAt octets place name y
name_until {octets} {place} {name} x y e at = subst (λ (k : ℕ). PlainNameAt octets place name k) e at

name_in : {place : ℕ} {name : NameValue} {next : ℕ} (xs ys : List ℕ) → xs ≡ ys → PlainNameAt xs place name next → PlainNameAt ys place name next
name_in {place} {name} {next} xs ys e at = subst (λ (zs : List ℕ). PlainNameAt zs place name next) e at

-- a request that is its names' text has no fault
no_request_fault : NameLaws → PlainLaws → (called calling : NameValue) (f : Fault) → IsName called → IsName calling → RequestFault (wire called ++ wire calling) f → ⊥
no_request_fault names laws called calling f is_a is_b bad =
    let first = name_until _ (length (wire called)) (omega arith) (names.wire_is called [] (wire calling) is_a) in
    let second = name_in _ (wire called ++ wire calling) (append-nil (wire called ++ wire calling)) (names.wire_is calling (wire called) [] is_b) in
    filled laws (wire called ++ wire calling) called calling (length (wire called)) f first (name_until _ (length (wire called ++ wire calling)) (sym (length-append (wire called) (wire calling))) second) bad

-- ---- any octets

short_of : (n : ℕ) → n ≤ 510 → n / 65536 ≡ 0
short_of n le = omega arith

request_length : (body : List ℕ) → HasLength Request (length body) → length body ≤ 131071
request_length body has = omega (arith, has.1)

length_is : (n flags high low : ℕ) → n ≤ 131071 → flags ≡ n / 65536 → high ≡ n / 256 % 256 → low ≡ n % 256 → count flags high low ≡ n
length_is n flags high low le e f g = omega arith

has_by : (a b : PacketType) (n m : ℕ) → a ≡ b → n ≡ m → HasLength a n → HasLength b m
has_by a b n m e f has = subst (λ (k : PacketType). HasLength k m) e (subst (λ (k : ℕ). HasLength a k) f has)

-- after a header there is no other length
header_has_length : (octets : List ℕ) (kind kind2 : PacketType) (flags high low : ℕ) (rest : List ℕ) (n : ℕ) (tail : List ℕ) → octets ≡ octet_of kind ∷ flags ∷ high ∷ low ∷ rest → octets ≡ header kind2 n ++ tail
    → n ≤ 131071 → HasLength kind2 n → ¬ HasLength kind (count flags high low) → ⊥
header_has_length octets kind kind2 flags high low rest n tail e e2 fits has wrong =
    let octet : octet_of kind2 ≡ octet_of kind = cc in
    let f : flags ≡ n / 65536 = cc in
    let h : high ≡ n / 256 % 256 = cc in
    let l : low ≡ n % 256 = cc in
    wrong (has_by kind2 kind n (count flags high low) (octet_apart kind2 kind octet) (sym (length_is n flags high low fits f h l)) has)

-- a header without what it counts has no fault
pub sound : (kind : PacketType) (n : ℕ) (tail : List ℕ) (f : Fault) → HasLength kind n → (kind ≡ Request → length tail < n) → HasFault (header kind n ++ tail) f → ⊥
sound kind n tail _ has short (type_bad t rest e unknown) = unknown kind cc
sound kind n tail _ has short (flags_bad kind2 flags rest e bits) =
    let same : flags ≡ n / 65536 = cc in omega (arith, has.1, most_fits kind)
sound kind n tail _ has short (length_bad kind2 flags high low rest e one wrong) =
    header_has_length (header kind n ++ tail) kind2 kind flags high low rest n tail e refl (omega (arith, has.1, most_fits kind)) has wrong
sound kind n tail _ has short (request_bad body rest f e has2 bad) =
    let same = header_apart kind Request n (length body) tail (body ++ rest) (omega (arith, has.1, most_fits kind)) (request_length body has2) e in
    omega (arith, short same.kind, same.count, ap length same.tail, length-append body rest)

pub one_fault : PlainLaws → (octets : List ℕ) (f g : Fault) → HasFault octets f → HasFault octets g → f ≡ g
one_fault laws octets _ _ (type_bad t rest e unknown) (type_bad t2 rest2 e2 unknown2) = refl
one_fault laws octets _ _ (type_bad t rest e unknown) (flags_bad kind flags rest2 e2 bits) = absurd (unknown kind cc)
one_fault laws octets _ _ (type_bad t rest e unknown) (length_bad kind flags high low rest2 e2 one wrong) = absurd (unknown kind cc)
one_fault laws octets _ _ (type_bad t rest e unknown) (request_bad body rest2 f e2 has bad) = absurd (unknown Request cc)
one_fault laws octets _ _ (flags_bad kind flags rest e bits) (type_bad t rest2 e2 unknown) = absurd (unknown kind cc)
one_fault laws octets _ _ (flags_bad kind flags rest e bits) (flags_bad kind2 flags2 rest2 e2 bits2) = refl
one_fault laws octets _ _ (flags_bad kind flags rest e bits) (length_bad kind2 flags2 high low rest2 e2 one wrong) =
    let same : flags ≡ flags2 = cc in absurd (omega arith)
one_fault laws octets _ _ (flags_bad kind flags rest e bits) (request_bad body rest2 f e2 has bad) =
    let same : flags ≡ length body / 65536 = cc in absurd (omega (arith, short_of (length body) has.1))
one_fault laws octets _ _ (length_bad kind flags high low rest e one wrong) (type_bad t rest2 e2 unknown) = absurd (unknown kind cc)
one_fault laws octets _ _ (length_bad kind2 flags2 high low rest2 e2 one wrong) (flags_bad kind flags rest e bits) =
    let same : flags ≡ flags2 = cc in absurd (omega arith)
one_fault laws octets _ _ (length_bad kind flags high low rest e one wrong) (length_bad kind2 flags2 high2 low2 rest2 e2 one2 wrong2) = refl
one_fault laws octets _ _ (length_bad kind flags high low rest e one wrong) (request_bad body rest2 f e2 has bad) = absurd (header_has_length octets kind Request flags high low rest (length body) (body ++ rest2) e e2 (request_length body has) has wrong)
one_fault laws octets _ _ (request_bad body rest2 f e2 has bad) (type_bad t rest e unknown) = absurd (unknown Request cc)
one_fault laws octets _ _ (request_bad body rest2 f e2 has bad) (flags_bad kind flags rest e bits) =
    let same : flags ≡ length body / 65536 = cc in absurd (omega (arith, short_of (length body) has.1))
one_fault laws octets _ _ (request_bad body rest2 f e2 has bad) (length_bad kind flags high low rest e one wrong) = absurd (header_has_length octets kind Request flags high low rest (length body) (body ++ rest2) e e2 (request_length body has) has wrong)
one_fault laws octets _ _ (request_bad body rest f e has bad) (request_bad body2 rest2 g e2 has2 bad2) =
    let same = frame_apart Request Request body body2 rest rest2 (request_length body has) (request_length body2 has2) (sym e ∙ e2) in
    one_request_fault laws body2 f g (subst (λ (xs : List ℕ). RequestFault xs f) same.body bad) bad2

-- a packet that is a request is its names' text
is_request : NameLaws → PlainLaws → (p : PacketValue) (body : List ℕ) (f : Fault) → IsPacket p → type_of p ≡ Request → body_of p ≡ body → RequestFault body f → ⊥
is_request names laws (request called calling) body f is t e bad = no_request_fault names laws called calling f is.0 is.1 (subst (λ (xs : List ℕ). RequestFault xs f) (sym e) bad)
is_request names laws _ body f is t e bad = cc

pub no_fault : NameLaws → PlainLaws → (octets : List ℕ) (p : PacketValue) (rest : List ℕ) (f : Fault) → Begins octets p rest → HasFault octets f → ⊥
no_fault names laws octets p rest _ (is, e) (type_bad t rest2 e2 unknown) = unknown (type_of p) cc
no_fault names laws octets p rest _ (is, e) (flags_bad kind flags rest2 e2 bits) =
    let same : flags ≡ length (body_of p) / 65536 = cc in omega (arith, body_short p is)
no_fault names laws octets p rest _ (is, e) (length_bad kind flags high low rest2 e2 one wrong) =
    header_has_length octets kind (type_of p) flags high low rest2 (length (body_of p)) (body_of p ++ rest) e2 e (body_short p is) (body_fits p is) wrong
no_fault names laws octets p rest _ (is, e) (request_bad body rest2 f e2 has bad) =
    let same = frame_apart (type_of p) Request (body_of p) body rest rest2 (body_short p is) (request_length body has) (sym e ∙ e2) in
    is_request names laws p body f is same.kind same.body bad
