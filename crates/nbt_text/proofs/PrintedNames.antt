-- What is printed of a name spells it.
use Rattle.std.proofs.Common.{◌≡◌, ℕ, ◌-◌, ◌≤◌, List, [], ◌∷◌, ◌++◌, length, sym, ap, refl, subst, inl, inr, arith, zero, suc}
use Rattle.std.specs.Prelude.{replicate}
use Rattle.std.proofs.lemmas.List.{drop_at, length-append}
use Rattle.hex.specs.Hex.{encode_lower}
use Rattle.hex.proofs.HexLemmas.{decode_of-encode_lower}
use Rattle.nbt_name.specs.Scope.{IsScope}
use Rattle.nbt_name.specs.Wire.{NameValue, IsName, AreOctets}
use Rattle.nbt_name.proofs.Scopes.{IsScope-parts}
use Rattle.nbt_text.specs.NameText.{Component, as_it_is, in_digits, IsTrimmed, Labels, no_label, label, PrintsName, PrintsComponent, PrintsLabels, label_printed, none_printed, Sixteen, filled_up, in_32_digits, SpellsName, space}

pub AreOctets-front : (xs ys : List ℕ) → AreOctets (xs ++ ys) → AreOctets xs
AreOctets-front [] ys fits k = omega arith
AreOctets-front (x ∷ xs) ys fits zero = fits zero
AreOctets-front (x ∷ xs) ys fits (suc k) = AreOctets-front xs ys (λ i. fits (suc i)) k

pub AreOctets-back : (xs ys : List ℕ) → AreOctets (xs ++ ys) → AreOctets ys
AreOctets-back [] ys fits = fits
AreOctets-back (x ∷ xs) ys fits = AreOctets-back xs ys (λ i. fits (suc i))

label_spells : (octets text : List ℕ) → PrintsComponent octets octets text → AreOctets octets → Component text octets
label_spells octets text (inl p) fits = rw p.1 (as_it_is octets p.0)
label_spells octets text (inr p) fits = rw p.1 (in_digits (encode_lower octets) octets (decode_of-encode_lower octets fits))

sixteen_spelled : (octets trimmed text : List ℕ) → length octets ≡ 16 → AreOctets octets → IsTrimmed octets trimmed → PrintsComponent trimmed octets text → Sixteen text octets
sixteen_spelled octets trimmed text len fits is (inl p) =
    let short : length trimmed ≤ 16 = omega (arith, len, ap length is.filled, length-append trimmed (replicate (length octets - length trimmed) space)) in
    let filled : octets ≡ trimmed ++ replicate (16 - length trimmed) space = subst (λ (n : ℕ). octets ≡ trimmed ++ replicate (n - length trimmed) space) len is.filled in
    rw p.1 (subst (λ (x : List ℕ). Sixteen trimmed x) (sym filled) (filled_up trimmed p.0 short))
sixteen_spelled octets trimmed text len fits is (inr p) =
    rw p.1 (in_32_digits (encode_lower octets) octets (decode_of-encode_lower octets fits) len)

pub labels_spelled : (scope text : List ℕ) → PrintsLabels scope text → AreOctets scope → IsScope scope → Labels text scope
labels_spelled _ _ none_printed fits is = no_label
labels_spelled _ _ (label_printed octets scope component rest printed others) fits is =
    let parts = IsScope-parts (length octets ∷ octets ++ scope) (length octets) (octets ++ scope) is refl in
    let behind : IsScope scope = subst IsScope (drop_at octets scope (length octets) refl) parts.3 in
    let fit : AreOctets (octets ++ scope) = λ k. fits (suc k) in
    label component octets rest scope (label_spells octets component printed (AreOctets-front octets scope fit)) parts.0 parts.1
    (labels_spelled scope rest others (AreOctets-back octets scope fit) behind)

pub printed_spells : (name : NameValue) (text : List ℕ) → IsName name → PrintsName name text → SpellsName text name
printed_spells name text is p = record {
  first = p.first;
  rest = p.rest;
  text_is = p.text_is;
  sixteen = sixteen_spelled name.octets p.trimmed p.first is.sixteen is.octets_fit p.is_trimmed p.sixteen;
  labels = labels_spelled name.scope p.rest p.labels is.scope_fits is.labels;
  fits = is.fits;
}
