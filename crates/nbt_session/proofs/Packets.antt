-- No packet's text begins another.
use Rattle.std.proofs.Common.{◌≡◌, ℕ, ◌+◌, ◌/◌, ◌%◌, ◌<◌, ◌≤◌, ◌^◌, List, [], ◌++◌, length, refl, sym, ap, ◌∙◌, arith}
use Rattle.std.proofs.lemmas.List.{length-append}
use Rattle.nbt_name.specs.Words.{word, long, word_at, long_at}
use Rattle.nbt_name.specs.declared.addr.Addr.{Addr}
use Rattle.nbt_name.specs.Wire.{NameValue, IsName, wire}
use Rattle.nbt_name.specs.Reading.{PlainNameAt}
use Rattle.nbt_name.proofs.Behind.{word_back, long_back}
use Rattle.nbt_name.proofs.Fits.{length-wire}
use Rattle.nbt_name.proofs.WireForms.{split_front}
use Rattle.nbt_session.specs.declared.packet.PacketType.{PacketType}
use Rattle.nbt_session.specs.declared.packet.PacketType.TheVariants.{Message, Request, Positive, Negative, Retarget, KeepAlive}
use Rattle.nbt_session.specs.Packet.{PacketValue, message, request, positive, negative, retarget, keep_alive, octet_of, most, HasLength, header, framed, type_of, body_of, text, IsPacket}

-- the laws of names that are used
pub record NameLaws : Type 0 where
  pub apart : (a b : NameValue) (x y : List ℕ) → IsName a → IsName b → wire a ++ x ≡ wire b ++ y → (a ≡ b) × (x ≡ y)
  pub wire_is : (name : NameValue) (front rest : List ℕ) → IsName name → PlainNameAt (front ++ wire name ++ rest) (length front) name (length front + length (wire name))

-- no two types have one octet
pub octet_apart : (a b : PacketType) → octet_of a ≡ octet_of b → a ≡ b
octet_apart Message Message e = refl
octet_apart Request Request e = refl
octet_apart Positive Positive e = refl
octet_apart Negative Negative e = refl
octet_apart Retarget Retarget e = refl
octet_apart KeepAlive KeepAlive e = refl
octet_apart _ _ e = absurd (omega arith)

pub most_fits : (kind : PacketType) → most kind ≤ 131071
most_fits Message = omega arith
most_fits _ = omega arith

-- a packet's octets are as many as its type has
pub body_fits : (p : PacketValue) → IsPacket p → HasLength (type_of p) (length (body_of p))
body_fits (message octets) is = (omega arith, is.0)
body_fits (request called calling) is =
    let total = length-append (wire called) (wire calling) in
    let a = length-wire called is.0 in
    let b = length-wire calling is.1 in
    (omega (arith, total, a, b), omega (arith, total, a, b, is.0.fits, is.1.fits))
body_fits positive is = (omega arith, omega arith)
body_fits (negative code) is = (omega arith, omega arith)
body_fits (retarget to) is = (omega arith, omega arith)
body_fits keep_alive is = (omega arith, omega arith)

same_addr : (a b : Addr) → a.ip ≡ b.ip → a.port ≡ b.port → a ≡ b
same_addr a b p q = λ i. record { ip = p i; port = q i }

retarget_apart : (a b : Addr) → a.ip < 2 ^ 32 → a.port < 2 ^ 16 → b.ip < 2 ^ 32 → b.port < 2 ^ 16 → long a.ip ++ word a.port ≡ long b.ip ++ word b.port → a ≡ b
retarget_apart a b ai ap' bi bp e =
    let parts = split_front (long a.ip) (long b.ip) (word a.port) (word b.port) refl e in
    same_addr a b
    (sym (long_back a.ip [] ai) ∙ ap (λ (xs : List ℕ). long_at (xs ++ []) 0) parts.0 ∙ long_back b.ip [] bi)
    (sym (word_back a.port [] ap') ∙ ap (λ (xs : List ℕ). word_at (xs ++ []) 0) parts.1 ∙ word_back b.port [] bp)

requests_apart : NameLaws → (a b c d : NameValue) → IsName a → IsName b → IsName c → IsName d → wire a ++ wire b ≡ wire c ++ wire d → request a b ≡ request c d
requests_apart names a b c d is_a is_b is_c is_d e =
    let firsts = names.apart a c (wire b) (wire d) is_a is_c e in
    let seconds = names.apart b d [] [] is_b is_d (ap (λ (xs : List ℕ). xs ++ []) firsts.1) in
    let one : a ≡ c = firsts.0 in
    let other : b ≡ d = seconds.0 in
    cc

-- a packet is its type and its octets
packet_by : NameLaws → (p q : PacketValue) → IsPacket p → IsPacket q → type_of p ≡ type_of q → body_of p ≡ body_of q → p ≡ q
packet_by names (message xs) (message ys) is_p is_q t e = ap message e
packet_by names (request a b) (request c d) is_p is_q t e = requests_apart names a b c d is_p.0 is_p.1 is_q.0 is_q.1 e
packet_by names positive positive is_p is_q t e = refl
packet_by names (negative a) (negative b) is_p is_q t e = cc
packet_by names (retarget a) (retarget b) is_p is_q t e = ap retarget (retarget_apart a b is_p.0 is_p.1 is_q.0 is_q.1 e)
packet_by names keep_alive keep_alive is_p is_q t e = refl
packet_by names _ _ is_p is_q t e = cc

-- Headers in front of others: their type and their length are the same, and so is what follows.
pub record SameHeader (a b : PacketType) (n m : ℕ) (x y : List ℕ) : Type 0 where
  pub kind : a ≡ b
  pub count : n ≡ m
  pub tail : x ≡ y

pub header_apart : (a b : PacketType) (n m : ℕ) (x y : List ℕ) → n ≤ 131071 → m ≤ 131071 → header a n ++ x ≡ header b m ++ y → SameHeader a b n m x y
header_apart a b n m x y fits_n fits_m e =
    let octet : octet_of a ≡ octet_of b = cc in
    let flags : n / 65536 ≡ m / 65536 = cc in
    let high : n / 256 % 256 ≡ m / 256 % 256 = cc in
    let low : n % 256 ≡ m % 256 = cc in
    let tails : x ≡ y = cc in
    record { kind = octet_apart a b octet; count = same_count n m fits_n fits_m flags high low; tail = tails }
  where
    same_count : (n m : ℕ) → n ≤ 131071 → m ≤ 131071 → n / 65536 ≡ m / 65536 → n / 256 % 256 ≡ m / 256 % 256 → n % 256 ≡ m % 256 → n ≡ m
    same_count n m a b p q r = omega arith

-- Framed octets in front of others: their type is the same, and so are the octets.
pub record SameFrame (a b : PacketType) (us vs x y : List ℕ) : Type 0 where
  pub kind : a ≡ b
  pub body : us ≡ vs
  pub rest : x ≡ y

pub frame_apart : (a b : PacketType) (us vs x y : List ℕ) → length us ≤ 131071 → length vs ≤ 131071 → framed a us ++ x ≡ framed b vs ++ y → SameFrame a b us vs x y
frame_apart a b us vs x y fits_u fits_v e =
    let same = header_apart a b (length us) (length vs) (us ++ x) (vs ++ y) fits_u fits_v e in
    let parts = split_front us vs x y same.count same.tail in
    record { kind = same.kind; body = parts.0; rest = parts.1 }

pub body_short : (p : PacketValue) → IsPacket p → length (body_of p) ≤ 131071
body_short p is = omega (arith, (body_fits p is).1, most_fits (type_of p))

-- no text begins another
pub text_apart : NameLaws → (p q : PacketValue) (x y : List ℕ) → IsPacket p → IsPacket q → text p ++ x ≡ text q ++ y → (p ≡ q) × (x ≡ y)
text_apart names p q x y is_p is_q e =
    let same = frame_apart (type_of p) (type_of q) (body_of p) (body_of q) x y (body_short p is_p) (body_short q is_q) e in
    (packet_by names p q is_p is_q same.kind same.body, same.rest)
