-- Networks, ranges and addresses, and words that are none.
use Rattle.std.proofs.Common.{◌≡◌, ℕ, ◌+◌, ◌-◌, ◌*◌, ◌/◌, ◌^◌, ◌<◌, ◌≤◌, List, Option, Some, None, inl, inr, sym, subst, ap, ◌∙◌, arith}
use Rattle.std.specs.Prelude.{IfNone, Bool, if◌then◌else◌}
use Rattle.std.specs.Net.Addr.{ipv4_bits}
use Rattle.std.proofs.NetLemmas.Theorems.{IsIpv4Text_unique}
use Rattle.std.proofs.lemmas.Bool.{lt-ltb, le-ltb}
use Rattle.std.proofs.lemmas.Nat.{pow-add, pow_pos, mul-add-lt}
use Rattle.std.proofs.Math.Pow.{shr_lt}
use Rattle.nbt_scan.specs.declared.span.Span.{Span}
use Rattle.nbt_text.specs.Number.{SpellsWithin}
use Rattle.nbt_scan.specs.Words.{Has, HasNone, before, behind, SpellsIp, SpellsNetwork, SpellsLast, SpellsRange, SpellsSpan, network, range, address, margin}

both : (mark : ℕ) (text : List ℕ) → Has mark text → HasNone mark text → ⊥
both mark text has none = omega (arith, has, none)

-- ---- a word with a slash

pub no_network : (text : List ℕ) → Has 0x2F text → ((span : Span) → ¬ SpellsNetwork (before 0x2F text) (behind 0x2F text) span) → (span : Span) → ¬ SpellsSpan text span
no_network text has none span (network _ is) = none span is
no_network text has none span (range other _ _) = both 0x2F text has other
no_network text has none span (address other _ _ _) = both 0x2F text has other

-- ---- with a hyphen, and with neither

pub no_range : (text : List ℕ) → HasNone 0x2F text → Has 0x2D text → ((span : Span) → ¬ SpellsRange (before 0x2D text) (behind 0x2D text) span) → (span : Span) → ¬ SpellsSpan text span
no_range text slash has none span (network other _) = both 0x2F text other slash
no_range text slash has none span (range _ _ is) = none span is
no_range text slash has none span (address _ other _ _) = both 0x2D text has other

pub no_address : (text : List ℕ) → HasNone 0x2F text → HasNone 0x2D text → ((ip : ℕ) → ¬ SpellsIp text ip) → (span : Span) → ¬ SpellsSpan text span
no_address text slash hyphen none span (network other _) = both 0x2F text other slash
no_address text slash hyphen none span (range _ other _) = both 0x2D text other hyphen
no_address text slash hyphen none span (address _ _ is _) = none span.first is

-- ---- a network

-- it ends with the last address of all, or before it
pub ends_within : (ip k : ℕ) → ip < 2 ^ 32 → k ≤ 16 → ip / 2 ^ k * 2 ^ k + 2 ^ k ≤ 2 ^ 32
ends_within ip k lt le =
    let h = 32 - k in
    let sum : 32 - k + k ≡ 32 = omega arith in
    let below : ip / 2 ^ k < 2 ^ (32 - k) = shr_lt (32 - k) k (subst (λ (n : ℕ). ip < 2 ^ n) (sym sum) lt) in
    let some : 0 < 2 ^ k = pow_pos k in
    let last = mul-add-lt (ip / 2 ^ k) (2 ^ k) (2 ^ k - 1) (2 ^ (32 - k)) below (omega arith) in
    let all : 2 ^ k * 2 ^ (32 - k) ≡ 2 ^ 32 = sym (pow-add 2 k (32 - k)) ∙ ap (λ (n : ℕ). 2 ^ n) (let e : k + (32 - k) ≡ 32 = omega arith in e) in
    omega (arith, last, all, some)

-- ---- each text spells one address

pub one_ip : (text : List ℕ) (a b : ℕ) → SpellsIp text a → SpellsIp text b → a ≡ b
one_ip text a b x y = x.2 ∙ ap ipv4_bits (IsIpv4Text_unique text x.0 y.0 x.1 y.1) ∙ sym y.2

pub one_last : (first : ℕ) (text : List ℕ) (a b : ℕ) → SpellsLast first text a → SpellsLast first text b → a ≡ b
one_last first text a b (inl x) (inl y) = one_ip text a b x.1 y.1
one_last first text a b (inl x) (inr y) = absurd (both 0x2E text x.0 y.1)
one_last first text a b (inr x) (inl y) = absurd (both 0x2E text y.0 x.1)
one_last first text a b (inr x) (inr y) = x.3 ∙ ap (λ (n : ℕ). first / 256 * 256 + n) (x.2.0.1 ∙ sym y.2.0.1) ∙ sym y.3

-- ---- a text that is no last address

not_by_ip : (first : ℕ) (text : List ℕ) → Has 0x2E text → ((ip : ℕ) → ¬ SpellsIp text ip) → (last : ℕ) → ¬ SpellsLast first text last
not_by_ip first text has none last (inl x) = none last x.1
not_by_ip first text has none last (inr x) = both 0x2E text has x.1

not_by_number : (first : ℕ) (text : List ℕ) → HasNone 0x2E text → ((number : ℕ) → ¬ SpellsWithin 0 255 text number) → (last : ℕ) → ¬ SpellsLast first text last
not_by_number first text bare none last (inl x) = both 0x2E text x.0 bare
not_by_number first text bare none last (inr x) = none x.0 x.2

pub last_ip : (first : ℕ) (text : List ℕ) (r : Option ℕ) → Has 0x2E text → IfNone r ((ip : ℕ) → ¬ SpellsIp text ip) → IfNone r ((last : ℕ) → ¬ SpellsLast first text last)
last_ip first text None has none = not_by_ip first text has none
last_ip first text (Some ip) has none = tt

pub last_number : (first : ℕ) (text : List ℕ) (r : Option ℕ) → HasNone 0x2E text → IfNone r ((number : ℕ) → ¬ SpellsWithin 0 255 text number) → IfNone r ((last : ℕ) → ¬ SpellsLast first text last)
last_number first text None bare none = not_by_number first text bare none
last_number first text (Some ip) bare none = tt

-- ---- the addresses that no host of a network has

pub margin_short : (bits : ℕ) → bits < 31 → margin bits ≡ 1
margin_short bits less = ap (λ (b : Bool). if b then 1 else 0) (lt-ltb bits 31 less)

pub margin_long : (bits : ℕ) → 31 ≤ bits → margin bits ≡ 0
margin_long bits more = ap (λ (b : Bool). if b then 1 else 0) (le-ltb bits 31 more)
