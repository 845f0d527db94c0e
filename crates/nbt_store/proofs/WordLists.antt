-- Words that are put one behind the other are the words of the line.
use Rattle.std.proofs.Common.{◌≡◌, ◌∙◌, ℕ, zero, suc, ◌<◌, ◌≤◌, ◌/◌, ◌%◌, ◌^◌, Bool, false, ◌==◌, List, [], ◌∷◌, ◌++◌, length, filter, inl, inr, ap, sym, subst, refl, append_assoc, arith, lit<, lit≤}
use Rattle.std.specs.Prelude.{not, All, slice_index}
use Rattle.std.specs.List.{slice_split, onto_first}
use Rattle.std.specs.Fmt.{decimal}
use Rattle.std.specs.Str.Parse.{AllDigits}
use Rattle.std.proofs.lemmas.Bool.{cases_Bool, cond-true, ne_eqb}
use Rattle.std.proofs.lemmas.List.Elements.{filter-append, All-nil, All-cons}
use Rattle.std.proofs.lemmas.List.Splits.{length-slice_split, slice_split_none, slice_split-cons_yes, slice_split-cons_no}
use Rattle.std.proofs.lemmas.Fmt.{decimal_nonempty, decimal_is_IsNumeral}
use Rattle.std.proofs.lemmas.Str.Parse.{digit_from_value}
use Rattle.hex.specs.Hex.{encode_with, encode_lower, lower_digits}
use Rattle.nbt_name.specs.Wire.{NameValue, IsName, AreOctets}
use Rattle.nbt_name.specs.declared.addr.Kind.{Kind}
use Rattle.nbt_name.specs.declared.addr.Kind.TheVariants.{Unique, Group}
use Rattle.nbt_text.specs.Address.{address_text}
use Rattle.nbt_text.specs.Lines.{words as words_of}
use Rattle.nbt_text.specs.NameText.{PrintsComponent, PrintsLabels, none_printed, label_printed, PrintsName, prefix}
use Rattle.nbt_store.specs.Boot.{IsBoot}
use Rattle.nbt_store.specs.Lines.{IsLine}
use Rattle.nbt_store.specs.Words.{kind_word, end_of}
use Rattle.nbt_store.specs.Writing.{AddsWord, AreAbove, IsWord}

abbrev is_space : ℕ → Bool
is_space octet = octet == 32

abbrev is_full : List ℕ → Bool
is_full word = not (length word == 0)

-- ---- a space cuts

onto_append : (x : ℕ) (a b : List (List ℕ)) → 0 < length a → onto_first x (a ++ b) ≡ onto_first x a ++ b
onto_append x [] b h = absurd (omega arith)
onto_append x (p ∷ ps) b h = refl

split_mark : (xs ys : List ℕ) → slice_split is_space (xs ++ 32 ∷ ys) ≡ slice_split is_space xs ++ slice_split is_space ys
split_mark [] ys = refl
split_mark (x ∷ xs) ys = elim (cases_Bool (x == 32)) [
  | inl t ↦ slice_split-cons_yes is_space x (xs ++ 32 ∷ ys) t ∙ ap (λ (parts : List (List ℕ)). [] ∷ parts) (split_mark xs ys)
      ∙ sym (ap (λ (parts : List (List ℕ)). parts ++ slice_split is_space ys) (slice_split-cons_yes is_space x xs t))
  | inr f ↦ slice_split-cons_no is_space x (xs ++ 32 ∷ ys) f ∙ ap (onto_first x) (split_mark xs ys)
      ∙ onto_append x (slice_split is_space xs) (slice_split is_space ys) (omega (arith, length-slice_split is_space xs))
      ∙ sym (ap (λ (parts : List (List ℕ)). parts ++ slice_split is_space ys) (slice_split-cons_no is_space x xs f))
]

no_space : (w : List ℕ) → AreAbove w → All (λ x. is_space x ≡ false) w
no_space [] h = All-nil (λ x. is_space x ≡ false)
no_space (x ∷ xs) h = All-cons (λ x. is_space x ≡ false) x xs (ne_eqb x 32 (λ e. omega (arith, e, h.0))) (no_space xs h.1)

full_alone : (w : List ℕ) → 0 < length w → filter is_full (w ∷ []) ≡ w ∷ []
full_alone [] h = absurd (omega arith)
full_alone (x ∷ xs) h = cond-true (is_full (x ∷ xs)) ((x ∷ xs) ∷ []) [] (ap not (ne_eqb (suc (length xs)) 0 (λ e. omega (arith, e))))

pub one_word : (w : List ℕ) → IsWord w → words_of w ≡ w ∷ []
one_word w h = ap (filter is_full) (slice_split_none is_space w (no_space w h.marks)) ∙ full_alone w h.some

pub one_more_word : (old w : List ℕ) → IsWord w → words_of (old ++ 32 ∷ w) ≡ words_of old ++ w ∷ []
one_more_word old w h = ap (filter is_full) (split_mark old w) ∙ filter-append is_full (slice_split is_space old) (slice_split is_space w) ∙ ap (λ (ws : List (List ℕ)). words_of old ++ ws) (one_word w h)

-- ---- octets of a line

pub line_append : (a b : List ℕ) → IsLine a → IsLine b → IsLine (a ++ b)
line_append [] b h k = k
line_append (x ∷ a) b h k = (h.0, line_append a b h.1 k)

pub marks_append : (a b : List ℕ) → AreAbove a → AreAbove b → AreAbove (a ++ b)
marks_append [] b h k = k
marks_append (x ∷ a) b h k = (h.0, marks_append a b h.1 k)

pub marks_line : (w : List ℕ) → AreAbove w → IsLine w
marks_line [] h = tt
marks_line (x ∷ w) h = (omega (arith, h.0), marks_line w h.1)

pub adds_word : (old new w : List ℕ) → IsWord w → new ≡ old ++ (32 ∷ w) → AddsWord old new w
adds_word old new w h e = record {
  words_are = ap words_of e ∙ one_more_word old w h;
  line = λ l. subst IsLine (sym e) (line_append old (32 ∷ w) l (lit≤ tt, marks_line w h.marks));
}

-- the same where the space was put first
pub adds_behind : (old new w : List ℕ) → IsWord w → new ≡ (old ++ 32 ∷ []) ++ w → AddsWord old new w
adds_behind old new w h e = adds_word old new w h (e ∙ append_assoc old (32 ∷ []) w)

-- ---- which texts are words

digits_marks : (ds : List ℕ) → AllDigits 10 ds → AreAbove ds
digits_marks [] d = tt
digits_marks (c ∷ cs) d = (omega (arith, digit_from_value c d.0), digits_marks cs d.1)

decimal_marks : (n : ℕ) → n < 2 ^ 64 → AreAbove (decimal n)
decimal_marks n h = digits_marks (decimal n) (decimal_is_IsNumeral n h).0.1

pub decimal_word : (n : ℕ) → n < 2 ^ 64 → IsWord (decimal n)
decimal_word n h = record { some = decimal_nonempty n h; marks = decimal_marks n h }

pub kind_is_word : (kind : Kind) → IsWord (kind_word kind)
kind_is_word Unique = record { some = lit< tt; marks = (lit≤ tt, (lit≤ tt, (lit≤ tt, (lit≤ tt, (lit≤ tt, (lit≤ tt, tt)))))) }
kind_is_word Group = record { some = lit< tt; marks = (lit≤ tt, (lit≤ tt, (lit≤ tt, (lit≤ tt, (lit≤ tt, tt))))) }

longer : (a b : List ℕ) → 0 < length a → 0 < length (a ++ b)
longer [] b h = absurd (omega arith)
longer (x ∷ a) b h = omega arith

more : (a b : List ℕ) → IsWord a → AreAbove b → IsWord (a ++ b)
more a b h k = record { some = longer a b h.some; marks = marks_append a b h.marks k }

mark : (m : ℕ) → 0x21 ≤ m → AreAbove (m ∷ [])
mark m h = (h, tt)

pub host_word : (ip : ℕ) → ip < 2 ^ 32 → IsWord (address_text (end_of ip))
host_word ip h =
    more _ _ (more _ _ (more _ _ (more _ _ (more _ _ (more _ _ (more _ _ (more _ _ (decimal_word _ (omega arith)) (mark 46 (lit≤ tt))) (decimal_marks _ (omega arith))) (mark 46 (lit≤ tt))) (decimal_marks _ (omega arith))) (mark 46 (lit≤ tt))) (decimal_marks _ (omega arith))) (mark 58 (lit≤ tt))) (decimal_marks 137 (lit< tt))

pub plain_marks : (w : List ℕ) → ((k : ℕ) → k < length w → 0x21 ≤ slice_index w k) → AreAbove w
plain_marks [] h = tt
plain_marks (x ∷ w) h = (h 0 (omega arith), plain_marks w (λ k i. h (suc k) (omega arith)))

index_mark : (w : List ℕ) → AreAbove w → (k : ℕ) → k < length w → 0x21 ≤ slice_index w k
index_mark [] h k i = absurd (omega arith)
index_mark (x ∷ w) h zero i = h.0
index_mark (x ∷ w) h (suc k) i = index_mark w h.1 k (omega arith)

lower_are_marks : AreAbove lower_digits
lower_are_marks = (lit≤ tt, (lit≤ tt, (lit≤ tt, (lit≤ tt, (lit≤ tt, (lit≤ tt, (lit≤ tt, (lit≤ tt, (lit≤ tt, (lit≤ tt, (lit≤ tt, (lit≤ tt, (lit≤ tt, (lit≤ tt, (lit≤ tt, (lit≤ tt, tt))))))))))))))))

lower_mark : (k : ℕ) → k < 16 → 0x21 ≤ slice_index lower_digits k
lower_mark k h = index_mark lower_digits lower_are_marks k h

pub hex_marks : (xs : List ℕ) → AreOctets xs → AreAbove (encode_lower xs)
unfolding encode_with
hex_marks [] fits = tt
hex_marks (x ∷ xs) fits =
    let octet : x < 256 = fits 0 in
    (lower_mark (x / 16) (omega (arith, octet)), (lower_mark (x % 16) (omega arith), hex_marks xs (λ k. fits (suc k))))

-- ---- names

prefix_marks : AreAbove prefix
prefix_marks = (lit≤ tt, (lit≤ tt, (lit≤ tt, (lit≤ tt, tt))))

component_word : (plain whole text : List ℕ) → AreOctets whole → PrintsComponent plain whole text → IsWord text
component_word plain whole text fits (inl p) = rw p.1 (record { some = p.0.some; marks = plain_marks plain (λ k i. (p.0.plain k i).0) })
component_word plain whole text fits (inr p) = rw p.1 (more prefix (encode_lower whole) (record { some = lit< tt; marks = prefix_marks }) (hex_marks whole fits))

AreOctets-front : (xs ys : List ℕ) → AreOctets (xs ++ ys) → AreOctets xs
AreOctets-front [] ys fits k = omega arith
AreOctets-front (x ∷ xs) ys fits zero = fits zero
AreOctets-front (x ∷ xs) ys fits (suc k) = AreOctets-front xs ys (λ i. fits (suc i)) k

AreOctets-back : (xs ys : List ℕ) → AreOctets (xs ++ ys) → AreOctets ys
AreOctets-back [] ys fits = fits
AreOctets-back (x ∷ xs) ys fits = AreOctets-back xs ys (λ i. fits (suc i))

labels_marks : (scope text : List ℕ) → AreOctets scope → PrintsLabels scope text → AreAbove text
labels_marks _ _ fits none_printed = tt
labels_marks _ _ fits (label_printed octets scope component rest printed others) =
    let fit : AreOctets (octets ++ scope) = λ k. fits (suc k) in
    (lit≤ tt, marks_append component rest (component_word octets octets component (AreOctets-front octets scope fit) printed).marks (labels_marks scope rest (AreOctets-back octets scope fit) others))

pub name_word : (name : NameValue) (text : List ℕ) → IsName name → PrintsName name text → IsWord text
name_word name text is p = rw p.text_is (more p.first p.rest (component_word p.trimmed name.octets p.first is.octets_fit p.sixteen) (labels_marks name.scope p.rest is.scope_fits p.labels))

-- ---- a boot's id

pub boot_word : (boot : List ℕ) → IsBoot boot → IsWord boot
boot_word boot is = record { some = is.some; marks = plain_marks boot (λ k i. (is.marks k i).0) }
