-- Octets cell by cell, and the numbers that they spell.
use Rattle.std.proofs.Common.{◌≡◌, ℕ, ◌+◌, ◌*◌, ◌/◌, ◌%◌, ◌<◌, ◌≤◌, true, List, [], ◌∷◌, ◌++◌, length, get_or, sym, ap, subst, ◌∙◌, arith, ltb}
use Rattle.nbt_name.specs.Words.{word, long, word_at, long_at}
use Rattle.nbt_name.specs.Wire.{AreOctets}
use Rattle.nbt_session.specs.declared.fault.Fault.{Fault}
use Rattle.nbt_session.specs.declared.fault.FaultKind.TheVariants.{BadLength}
use Rattle.nbt_session.specs.declared.packet.PacketType.{PacketType}
use Rattle.nbt_session.specs.declared.packet.PacketType.TheVariants.{Request}
use Rattle.nbt_session.specs.Packet.{octet_of, least, HasLength, header}
use Rattle.nbt_session.specs.Stream.{bad, count, HasFault, length_bad}
use Rattle.nbt_session.proofs.Faults.{sound}

-- the first octet that was got, and the first two
pub one_cell : (xs : List ℕ) (x : ℕ) → true ≡ ltb 0 (length xs) → x ≡ get_or xs 0 x → (rest : List ℕ) × (xs ≡ x ∷ rest)
one_cell [] x e is = absurd cc
one_cell (y ∷ ys) x e is = (ys, cc)

pub two_cells : (xs : List ℕ) (x y : ℕ) → true ≡ ltb 0 (length xs) → x ≡ get_or xs 0 x → true ≡ ltb 1 (length xs) → y ≡ get_or xs 1 y → (rest : List ℕ) × (xs ≡ x ∷ y ∷ rest)
two_cells [] x y e is e2 is2 = absurd cc
two_cells (a ∷ []) x y e is e2 is2 = absurd cc
two_cells (a ∷ b ∷ zs) x y e is e2 is2 = (zs, cc)

-- the two octets of LENGTH
pub record Spells (octet flags n : ℕ) (xs : List ℕ) : Type 0 where
  pub high : ℕ
  pub low : ℕ
  pub cells : xs ≡ octet ∷ flags ∷ high ∷ low ∷ []
  pub counts : n ≡ count flags high low
  pub fits_high : high < 256
  pub fits_low : low < 256

pub four_cells : (xs : List ℕ) (octet flags n : ℕ) (rest : List ℕ) → AreOctets xs → length xs ≡ 4 → xs ≡ octet ∷ flags ∷ rest → n ≡ flags * 65536 + word_at xs 2 → Spells octet flags n xs
four_cells (a ∷ b ∷ h ∷ l ∷ []) octet flags n rest fits four e is =
    let one : a ≡ octet = cc in
    let two : b ≡ flags = cc in
    record { high = h; low = l; cells = cc; counts = omega arith; fits_high = fits 2; fits_low = fits 3 }
four_cells _ octet flags n rest fits four e is = absurd (omega arith)

-- such octets are the header that says so
pub header_is : (xs : List ℕ) (kind : PacketType) (flags n : ℕ) → flags ≤ 1 → Spells (octet_of kind) flags n xs → xs ≡ header kind n
header_is xs kind flags n le s =
    let f : flags ≡ n / 65536 = flags_of flags s.high s.low n s.fits_high s.fits_low s.counts in
    let h : s.high ≡ n / 256 % 256 = high_of flags s.high s.low n s.fits_high s.fits_low s.counts in
    let l : s.low ≡ n % 256 = low_of flags s.high s.low n s.fits_high s.fits_low s.counts in
    let cells = s.cells in
    cc
  where
    flags_of : (f h l n : ℕ) → h < 256 → l < 256 → n ≡ count f h l → f ≡ n / 65536
    flags_of f h l n a b e = omega arith

    high_of : (f h l n : ℕ) → h < 256 → l < 256 → n ≡ count f h l → h ≡ n / 256 % 256
    high_of f h l n a b e = omega arith

    low_of : (f h l n : ℕ) → h < 256 → l < 256 → n ≡ count f h l → l ≡ n % 256
    low_of f h l n a b e = omega arith

-- an address and a port, from their six octets
pub addr_octets : (xs : List ℕ) (ip port : ℕ) → AreOctets xs → length xs ≡ 6 → ip ≡ long_at xs 0 → port ≡ word_at xs 4 → long ip ++ word port ≡ xs
addr_octets (a ∷ b ∷ c ∷ d ∷ e ∷ f ∷ []) ip port fits six i p =
    let fa : a < 256 = fits 0 in
    let fb : b < 256 = fits 1 in
    let fc : c < 256 = fits 2 in
    let fd : d < 256 = fits 3 in
    let fe : e < 256 = fits 4 in
    let ff : f < 256 = fits 5 in
    let one : ip / 16777216 % 256 ≡ a = omega arith in
    let two : ip / 65536 % 256 ≡ b = omega arith in
    let three : ip / 256 % 256 ≡ c = omega arith in
    let four : ip % 256 ≡ d = omega arith in
    let five : port / 256 % 256 ≡ e = omega arith in
    let last : port % 256 ≡ f = omega arith in
    cc
addr_octets _ ip port fits six i p = absurd (omega arith)

-- a whole header, as it is read
pub whole_header : (xs : List ℕ) (kind : PacketType) (octet flags high low : ℕ) → AreOctets xs → length xs ≡ 4 → true ≡ ltb 0 (length xs) → octet ≡ get_or xs 0 octet → true ≡ ltb 1 (length xs) → flags ≡ get_or xs 1 flags
    → octet_of kind ≡ octet → high ≡ flags → low ≡ word_at xs 2 → Spells (octet_of kind) flags (high * 65536 + low) xs
whole_header xs kind octet flags high low fits four some first some2 second kind_is high_is low_is =
    let cells = two_cells xs octet flags some first some2 second in
    four_cells xs (octet_of kind) flags (high * 65536 + low) cells.0 fits four
    (cells.1 ∙ ap (λ (x : ℕ). x ∷ flags ∷ cells.0) (sym kind_is)) (ap (λ (k : ℕ). k * 65536 + low) high_is ∙ ap (λ (k : ℕ). flags * 65536 + k) low_is)

pub length_wrong : (xs : List ℕ) (kind : PacketType) (flags n : ℕ) → flags ≤ 1 → Spells (octet_of kind) flags n xs → ¬ HasLength kind n → HasFault xs (bad BadLength 2)
length_wrong xs kind flags n one s wrong = length_bad kind flags s.high s.low [] s.cells one (λ has. wrong (subst (HasLength kind) (sym s.counts) has))

pub header_sound : (xs : List ℕ) (kind : PacketType) (flags n : ℕ) → flags ≤ 1 → Spells (octet_of kind) flags n xs → HasLength kind n → (fault : Fault) → HasFault xs fault → ⊥
header_sound xs kind flags n one s has fault wrong =
    sound kind n [] fault has (λ is. request_long kind n is has) (subst (λ (ys : List ℕ). HasFault ys fault) (header_is xs kind flags n one s) wrong)
  where
    request_long : (kind : PacketType) (n : ℕ) → kind ≡ Request → HasLength kind n → 0 < n
    request_long kind n is has =
        let long : 68 ≤ n = subst (λ (k : PacketType). least k ≤ n) is has.0 in
        omega arith
