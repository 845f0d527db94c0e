-- The words of a line, one by one.
use Rattle.std.proofs.Common.{◌≡◌, ℕ, suc, ◌+◌, ◌<◌, ◌≤◌, List, [], ◌∷◌, length, get_or, drop, drop-cons, length-drop, refl, ap, add-one, arith}
use denote.Ref.{Bor}
use Rattle.nbt_text.specs.Texts.{texts}

abbrev pub lost : Bor (List ℕ)
lost = record { ref_ptr = (0, 0); now = [] }

pub no_texts : (words : List (Bor (List ℕ))) → length words ≡ 0 → texts words ≡ []
no_texts [] e = refl
no_texts (w ∷ ws) e = absurd (omega arith)

pub three_texts : (words : List (Bor (List ℕ))) → length words ≡ 3 → texts words ≡ (get_or words 0 lost).now ∷ (get_or words 1 lost).now ∷ (get_or words 2 lost).now ∷ []
three_texts [] h = absurd (omega arith)
three_texts (a ∷ []) h = absurd (omega arith)
three_texts (a ∷ b ∷ []) h = absurd (omega arith)
three_texts (a ∷ b ∷ c ∷ []) h = refl
three_texts (a ∷ b ∷ c ∷ d ∷ ws) h = absurd (omega arith)

-- the first of those that are left, and none
pub texts_from : (words : List (Bor (List ℕ))) (i : ℕ) (d : Bor (List ℕ)) → i < length words → texts (drop i words) ≡ (get_or words i d).now ∷ texts (drop (i + 1) words)
texts_from words i d h = rw (add-one, drop-cons words i d) refl

pub no_texts_left : (words : List (Bor (List ℕ))) (i : ℕ) → length words ≤ i → texts (drop i words) ≡ []
no_texts_left words i h = no_texts (drop i words) (simp length-drop (omega arith))

pub count_texts : (words : List (Bor (List ℕ))) → length (texts words) ≡ length words
count_texts [] = refl
count_texts (w ∷ ws) = ap suc (count_texts ws)

-- two octets that were read
pub two_octets : (octets : List ℕ) (a b : ℕ) → length octets ≡ 2 → get_or octets 0 0 ≡ a → get_or octets 1 0 ≡ b → octets ≡ a ∷ b ∷ []
two_octets [] a b h p q = absurd (omega arith)
two_octets (x ∷ []) a b h p q = absurd (omega arith)
two_octets (x ∷ y ∷ []) a b h p q = cc
two_octets (x ∷ y ∷ z ∷ zs) a b h p q = absurd (omega arith)
