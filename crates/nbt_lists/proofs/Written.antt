-- What is written of a name is read as that name.
use Rattle.std.proofs.Common.{◌≡◌, ◌∙◌, ℕ, zero, suc, ◌<◌, ◌≤◌, ◌/◌, ◌%◌, ◌^◌, List, [], ◌∷◌, ◌++◌, length, inl, inr, ap, sym, subst, refl, append_assoc, arith, lit<, lit≤}
use Rattle.std.specs.Prelude.{slice_index, codes}
use Rattle.std.specs.Fmt.{decimal}
use Rattle.std.specs.Net.Addr.{ipv4_bits}
use Rattle.hex.specs.Hex.{encode_with, encode_lower, encode_upper, upper_digits}
use Rattle.nbt_name.specs.Wire.{NameValue, IsName, IsStar, AreOctets}
use Rattle.nbt_name.specs.declared.addr.Kind.{Kind}
use Rattle.nbt_name.specs.declared.addr.Kind.TheVariants.{Unique, Group}
use Rattle.nbt_show.specs.Holders.{kind_word}
use Rattle.nbt_text.specs.Address.{dotted}
use Rattle.nbt_text.specs.Lines.{words}
use Rattle.nbt_text.specs.NameText.{PrintsComponent, PrintsLabels, none_printed, label_printed, prefix}
use Rattle.nbt_text.specs.ScopedNames.{PrintsWord, SpellsScopedName}
use Rattle.nbt_text.specs.SuffixedNames.{PrintsOctets, in_capitals, in_hexadecimal, fifteen}
use Rattle.nbt_text.specs.declared.casing.Case.TheVariants.{Folded}
use Rattle.nbt_front.specs.Files.{IsOfOne, SpellsLine, spells}
use Rattle.nbt_front.specs.Networks.{SpellsIp}
use Rattle.nbt_front.specs.declared.line.FixedLine.{FixedLine}
use Rattle.nbt_store.specs.Writing.{AreAbove, IsWord}
use Rattle.nbt_store.proofs.WordLists.{one_word, one_more_word, marks_append, decimal_word, plain_marks, hex_marks}
use Rattle.nbt_lists.specs.Written.{entry_text}

-- ---- three words

three_words : (a b c : List ℕ) → IsWord a → IsWord b → IsWord c → words (a ++ (32 ∷ (b ++ (32 ∷ c)))) ≡ a ∷ b ∷ c ∷ []
three_words a b c ha hb hc =
    ap words (sym (append_assoc a (32 ∷ b) (32 ∷ c))) ∙ one_more_word (a ++ (32 ∷ b)) c hc
    ∙ ap (λ (ws : List (List ℕ)). ws ++ c ∷ []) (one_more_word a b hb ∙ ap (λ (ws : List (List ℕ)). ws ++ b ∷ []) (one_word a ha))

same : (a b c : List ℕ) → a ++ (codes " " ++ b ++ codes " ") ++ c ≡ a ++ (32 ∷ (b ++ (32 ∷ c)))
same a b c = simp append_assoc

-- ---- which texts are words

longer : (a b : List ℕ) → 0 < length a → 0 < length (a ++ b)
longer [] b h = absurd (omega arith)
longer (x ∷ a) b h = omega arith

more : (a b : List ℕ) → IsWord a → AreAbove b → IsWord (a ++ b)
more a b h k = record { some = longer a b h.some; marks = marks_append a b h.marks k }

kind_is_word : (kind : Kind) → IsWord (kind_word kind)
kind_is_word Unique = record { some = lit< tt; marks = (lit≤ tt, (lit≤ tt, (lit≤ tt, (lit≤ tt, (lit≤ tt, (lit≤ tt, tt)))))) }
kind_is_word Group = record { some = lit< tt; marks = (lit≤ tt, (lit≤ tt, (lit≤ tt, (lit≤ tt, (lit≤ tt, tt))))) }

dot_mark : AreAbove (46 ∷ [])
dot_mark = (lit≤ tt, tt)

decimal_marks : (n : ℕ) → n < 2 ^ 64 → AreAbove (decimal n)
decimal_marks n h = (decimal_word n h).marks

dotted_word : (ip : ℕ) → ip < 2 ^ 32 → IsWord (dotted ip)
dotted_word ip h =
    more _ _ (more _ _ (more _ _ (more _ _ (more _ _ (more _ _ (decimal_word _ (omega (arith, h))) dot_mark) (decimal_marks _ (omega arith))) dot_mark) (decimal_marks _ (omega arith))) dot_mark) (decimal_marks _ (omega arith))

index_mark : (w : List ℕ) → AreAbove w → (k : ℕ) → k < length w → 0x21 ≤ slice_index w k
index_mark [] h k i = absurd (omega arith)
index_mark (x ∷ w) h zero i = h.0
index_mark (x ∷ w) h (suc k) i = index_mark w h.1 k (omega arith)

upper_are_marks : AreAbove upper_digits
upper_are_marks = (lit≤ tt, (lit≤ tt, (lit≤ tt, (lit≤ tt, (lit≤ tt, (lit≤ tt, (lit≤ tt, (lit≤ tt, (lit≤ tt, (lit≤ tt, (lit≤ tt, (lit≤ tt, (lit≤ tt, (lit≤ tt, (lit≤ tt, (lit≤ tt, tt))))))))))))))))

upper_mark : (k : ℕ) → k < 16 → 0x21 ≤ slice_index upper_digits k
upper_mark k h = index_mark upper_digits upper_are_marks k h

suffix_marks : (x : ℕ) → x < 256 → AreAbove (encode_upper (x ∷ []))
unfolding encode_with
suffix_marks x h = (upper_mark (x / 16) (omega (arith, h)), (upper_mark (x % 16) (omega arith), tt))

AreOctets-front : (xs ys : List ℕ) → AreOctets (xs ++ ys) → AreOctets xs
AreOctets-front [] ys fits k = omega arith
AreOctets-front (x ∷ xs) ys fits zero = fits zero
AreOctets-front (x ∷ xs) ys fits (suc k) = AreOctets-front xs ys (λ i. fits (suc i)) k

AreOctets-back : (xs ys : List ℕ) → AreOctets (xs ++ ys) → AreOctets ys
AreOctets-back [] ys fits = fits
AreOctets-back (x ∷ xs) ys fits = AreOctets-back xs ys (λ i. fits (suc i))

prefix_word : IsWord prefix
prefix_word = record { some = lit< tt; marks = (lit≤ tt, (lit≤ tt, (lit≤ tt, (lit≤ tt, tt)))) }

octets_word : (octets word : List ℕ) → AreOctets octets → PrintsOctets octets word → IsWord word
octets_word _ _ fits (in_capitals front suffix seen) =
    more front (0x23 ∷ encode_upper (suffix ∷ [])) (record { some = seen.is_front.some; marks = plain_marks front (λ k i. (seen.is_front.plain k i).0) })
    (lit≤ tt, suffix_marks suffix (AreOctets-back (fifteen front) (suffix ∷ []) fits 0))
octets_word _ _ fits (in_hexadecimal octets none) = more prefix (encode_lower octets) prefix_word (hex_marks octets fits)

component_word : (plain whole text : List ℕ) → AreOctets whole → PrintsComponent plain whole text → IsWord text
component_word plain whole text fits (inl p) = rw p.1 (record { some = p.0.some; marks = plain_marks plain (λ k i. (p.0.plain k i).0) })
component_word plain whole text fits (inr p) = rw p.1 (more prefix (encode_lower whole) prefix_word (hex_marks whole fits))

labels_marks : (scope text : List ℕ) → AreOctets scope → PrintsLabels scope text → AreAbove text
labels_marks _ _ fits none_printed = tt
labels_marks _ _ fits (label_printed octets scope component rest printed others) =
    let fit : AreOctets (octets ++ scope) = λ k. fits (suc k) in
    (lit≤ tt, marks_append component rest (component_word octets octets component (AreOctets-front octets scope fit) printed).marks (labels_marks scope rest (AreOctets-back octets scope fit) others))

name_word : (name : NameValue) (word : List ℕ) → IsName name → PrintsWord name word → IsWord word
name_word name word is p = rw p.word_is (more p.front p.labels (octets_word name.octets p.front is.octets_fit p.octets_are) (labels_marks name.scope p.labels is.scope_fits p.labels_are))

-- ---- an address

spells_ip : (ip : ℕ) → ip < 2 ^ 32 → SpellsIp (dotted ip) ip
unfolding ipv4_bits
spells_ip ip h = (
  record { octets = ip / 2 ^ 24 ∷ ip / 2 ^ 16 % 256 ∷ ip / 2 ^ 8 % 256 ∷ ip % 256 ∷ [] },
  record {
    a = ip / 2 ^ 24;
    b = ip / 2 ^ 16 % 256;
    c = ip / 2 ^ 8 % 256;
    d = ip % 256;
    fit = (omega (arith, h), omega arith, omega arith, omega arith);
    value = refl;
    spelled = refl;
  },
  omega (arith, h),
)

-- ---- a line

pub read_again : ((name : NameValue) (word : List ℕ) → IsName name → PrintsWord name word → SpellsScopedName Folded word [] name)
    → (entry : FixedLine) (word : List ℕ) → IsName entry.name → ¬ IsStar entry.name → IsOfOne entry.addr → entry.addr < 2 ^ 32 → PrintsWord entry.name word
    → SpellsLine (words (entry_text word entry)) entry
read_again names entry word is not_star one fits printed =
    subst (λ (ws : List (List ℕ)). SpellsLine ws entry) (sym (ap words (same word (kind_word entry.kind) (dotted entry.addr))
    ∙ three_words word (kind_word entry.kind) (dotted entry.addr) (name_word entry.name word is printed) (kind_is_word entry.kind) (dotted_word entry.addr fits)))
    (spells word (kind_word entry.kind) (dotted entry.addr) entry (names entry.name word is printed, not_star) refl (spells_ip entry.addr fits, one))
