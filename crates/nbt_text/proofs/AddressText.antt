-- Addresses as text: numbers as `{}` prints them, how their texts begin, and where a mark after one stands.
use Rattle.std.proofs.Common.{◌≡◌, ◌≢◌, ℕ, ◌+◌, ◌*◌, ◌/◌, ◌%◌, ◌<◌, ◌^◌, ◌⊎◌, List, [], ◌∷◌, ◌++◌, length, get_or, Option, Some, Result, Ok, Err, sym, ◌∙◌, ap, refl, inl, inr, arith, append_assoc, lit<, zero, suc}
use Rattle.std.specs.Prelude.{MatchOption, IfSome, slice_index, ◌≤◌}
use Rattle.std.specs.Fmt.{decimal}
use Rattle.std.specs.Int.{IsInRange}
use Rattle.std.specs.Result.{OkIff, result_ok}
use Rattle.std.specs.Str.Parse.{AllDigits, digits_value, ParsesUnsigned}
use Rattle.std.proofs.lemmas.Fmt.{decimal_digit, decimal_nonempty, first_decimal, digits_decimal, decimal-digits_value}
use Rattle.std.proofs.lemmas.Str.Parse.{IsNumeralModel, numerals_by_value, tells_digits, tells_by_index, not_in_digits, parse_plain}
use Rattle.std.proofs.lemmas.Str.Pattern.{IsSplitOnceResult, split_after}
use denote.Ref.{Bor}
use Rattle.nbt_text.specs.Address.{address_text}
use Rattle.nbt_name.specs.declared.addr.Addr.{Addr}

-- the text begins with a digit, which is no zero unless it is alone
abbrev pub CanBeginDecimal : List ℕ → Type 0
CanBeginDecimal text = ((length text ≡ 1) × (slice_index text 0 ≡ 48))
    ⊎ ((0 < length text) × (49 ≤ slice_index text 0) × (slice_index text 0 ≤ 57))

abbrev InRange : List ℕ → Type 0
InRange ds = (i : ℕ) → i < length ds → IsInRange 48 57 (get_or ds i 0)

by_index : IsNumeralModel InRange (digits_value 10)
by_index = numerals_by_value InRange tells_by_index

by_digits : IsNumeralModel (AllDigits 10) (digits_value 10)
by_digits = numerals_by_value (AllDigits 10) tells_digits

-- `{}` writes no leading zero
pub CanBeginDecimal-decimal : (n : ℕ) → n < 2 ^ 64 → CanBeginDecimal (decimal n)
CanBeginDecimal-decimal zero h =
    let e : decimal 0 ≡ 48 ∷ [] = decimal_digit 0 (lit< tt) in inl (ap length e, ap (λ ds. get_or ds 0 0) e)
CanBeginDecimal-decimal (suc m) h =
    let some : 0 < length (decimal (suc m)) = decimal_nonempty (suc m) h in
    let low : 48 < get_or (decimal (suc m)) 0 0 = first_decimal (suc m) (omega arith) h in
    let high : IsInRange 48 57 (get_or (decimal (suc m)) 0 0) = digits_decimal by_index (suc m) h 0 some in
    inr (some, omega arith, omega arith)

-- a text that begins so is what `{}` writes of the number that `parse` reads
pub decimal_from_parse : (E : Type 0) (bs : List ℕ) (r : Result ℕ E) → ParsesUnsigned {E = E} 16 10 bs r → CanBeginDecimal bs → IfSome (result_ok r) (λ n. (n < 2 ^ 16) × (bs ≡ decimal n))
decimal_from_parse E bs (Ok n) h b =
    let plain : get_or bs 0 0 ≢ 43 = λ e. elim b [ inl p ↦ omega arith | inr p ↦ omega arith ] in
    let lead : get_or bs 0 0 ≡ 48 → length bs ≡ 1 = λ e. elim b [ inl p ↦ p.0 | inr p ↦ absurd (omega arith) ] in
    let q = parse_plain by_digits {E = E} 16 bs (Ok n) h plain in
    (omega (arith, q.0.2, q.1), sym (ap decimal q.1 ∙ decimal-digits_value by_digits bs q.0.0 q.0.1 lead (omega (arith, q.0.2))))
decimal_from_parse E bs (Err e) h b = tt

no_mark : (n c : ℕ) → n < 2 ^ 64 → (c ≡ 46) ⊎ (c ≡ 58) → (i : ℕ) → i < length (decimal n) → get_or (decimal n) i 0 ≢ c
no_mark n c h m =
    not_in_digits by_index (decimal n) c (digits_decimal by_index n h) (λ r. elim m [ inl e ↦ omega arith | inr e ↦ omega arith ])

-- the first mark after a number ends it
pub split_decimal : (c n : ℕ) (bs rest : List ℕ) (r : Option (Bor (List ℕ) × Bor (List ℕ))) → IsSplitOnceResult c bs r → (c ≡ 46) ⊎ (c ≡ 58) → n < 2 ^ 64 → bs ≡ decimal n ++ (c ∷ rest) → MatchOption r ⊥ (λ x. (x.0.now ≡ decimal n) × (x.1.now ≡ rest))
split_decimal c n bs rest r s m h e =
    split_after c bs (decimal n) rest r s (elim m [ inl e ↦ omega arith | inr e ↦ omega arith ]) e (no_mark n c h m)

-- the text of an address from its port back
abbrev pub from_fourth : Addr → List ℕ
from_fourth a = decimal (a.ip % 256) ++ (58 ∷ decimal a.port)

abbrev pub from_third : Addr → List ℕ
from_third a = decimal (a.ip / 2 ^ 8 % 256) ++ (46 ∷ from_fourth a)

abbrev pub from_second : Addr → List ℕ
from_second a = decimal (a.ip / 2 ^ 16 % 256) ++ (46 ∷ from_third a)

abbrev pub from_first : Addr → List ℕ
from_first a = decimal (a.ip / 2 ^ 24) ++ (46 ∷ from_second a)

pub address_text-from_first : (a : Addr) → address_text a ≡ from_first a
address_text-from_first a = simp append_assoc

-- the octets of a number that four octets make
pub octets_joined : (a b c d ip : ℕ) → a < 256 → b < 256 → c < 256 → d < 256 → ip ≡ ((a * 256 + b) * 256 + c) * 256 + d
    → (ip / 2 ^ 24 ≡ a) × (ip / 2 ^ 16 % 256 ≡ b) × (ip / 2 ^ 8 % 256 ≡ c) × (ip % 256 ≡ d)
octets_joined a b c d ip ha hb hc hd e = (omega arith, omega arith, omega arith, omega arith)

-- and the number that the octets make
pub joined_octets : (ip : ℕ) → ip < 2 ^ 32
    → ((ip / 2 ^ 24 * 256 + ip / 2 ^ 16 % 256) * 256 + ip / 2 ^ 8 % 256) * 256 + ip % 256 ≡ ip
joined_octets ip h = omega arith

pub octet_lt : (ip : ℕ) → ip < 2 ^ 32 → (ip / 2 ^ 24 < 256) × (ip / 2 ^ 16 % 256 < 256) × (ip / 2 ^ 8 % 256 < 256) × (ip % 256 < 256)
octet_lt ip h = (omega arith, omega arith, omega arith, omega arith)

-- the text of an address whose octets are known
pub address_text_joined : (a b c d ip p : ℕ) → a < 256 → b < 256 → c < 256 → d < 256 → ip ≡ ((a * 256 + b) * 256 + c) * 256 + d
    → address_text (record { ip = ip; port = p })
    ≡ decimal a ++ (46 ∷ (decimal b ++ (46 ∷ (decimal c ++ (46 ∷ (decimal d ++ (58 ∷ decimal p)))))))
address_text_joined a b c d ip p ha hb hc hd e =
    let o = octets_joined a b c d ip ha hb hc hd e in address_text-from_first (record { ip = ip; port = p }) ∙ rw (o.0, o.1, o.2, o.3) refl

-- the octet that `u8::try_from` makes of a small number
pub octet_found : (E : Type 0) (m n : ℕ) (r : Result ℕ E) → OkIff r (m < 256) m → n < 256 → Some m ≡ Some n → result_ok r ≡ Some n
octet_found E m n (Ok x) h small e = ap Some h.1 ∙ e
octet_found E m n (Err x) h small e = let same : m ≡ n = cc in absurd (h (omega arith))
