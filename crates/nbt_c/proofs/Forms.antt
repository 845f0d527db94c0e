-- Forms of a name that are put into the caller's buffer, the word of its characters, and the dot before a scope's labels.
use Rattle.nbt_c.proofs.Common.{◌≡◌, ℕ, ◌/◌, ◌%◌, ◌<◌, ◌≤◌, List, [], ◌∷◌, ◌++◌, length, drop, refl, ap, subst, ◌∙◌, inl, inr, arith, append_assoc, slice_index, length-append, encode_lower, encode_upper, upper_digits, NameValue, PrintsComponent, PrintsLabels, label_printed, none_printed, dot, prefix, dotted, CName, HoldsName, name_in, Writes, written, has_no_room, no_room, given}
use Rattle.std.proofs.lemmas.Bool.{cases_lt}
use Rattle.hex.specs.Hex.{encode_with}

pub form_written : (IsForm : NameValue → List ℕ → Type 0) (held : CName) (room : List ℕ) (size : ℕ) (form : List ℕ) → HoldsName held → IsForm (name_in held) form → (r : ℕ) (after : List ℕ) (n : ℕ)
    → (length form ≤ length room → (r ≡ 0) × (after ≡ form ++ drop (length form) room) × (n ≡ length form)) → (length room < length form → (r ≡ no_room) × (after ≡ room) × (n ≡ size)) → Writes IsForm held room size r after n
form_written IsForm held room size form holds is r after n fits full =
    elim (cases_lt (length room) (length form)) [
      | inl short ↦ let f = full short in given (λ r n after. Writes IsForm held room size r after n) f.0 f.2 f.1 (has_no_room form holds is short)
      | inr le ↦ let f = fits le in given (λ r n after. Writes IsForm held room size r after n) f.0 f.2 f.1 (written form holds is le)
    ]

-- ---- the characters before a suffix, and its two digits

pub word_pushed : (front first second third : List ℕ) (suffix high low : ℕ) → first ≡ front ++ 0x23 ∷ [] → high ≡ suffix / 16 → low ≡ suffix % 16 → second ≡ first ++ slice_index upper_digits high ∷ [] → third ≡ second ++ slice_index upper_digits low ∷ []
    → third ≡ front ++ 0x23 ∷ encode_upper (suffix ∷ [])
unfolding encode_with
word_pushed front first second third suffix high low is h l a b =
    let x = slice_index upper_digits (suffix / 16) in let y = slice_index upper_digits (suffix % 16) in
    let up : second ≡ (front ++ 0x23 ∷ []) ++ x ∷ [] = a ∙ ap (λ (xs : List ℕ). xs ++ slice_index upper_digits high ∷ []) is ∙ ap (λ (n : ℕ). (front ++ 0x23 ∷ []) ++ slice_index upper_digits n ∷ []) h in
    b ∙ ap (λ (xs : List ℕ). xs ++ slice_index upper_digits low ∷ []) up ∙ ap (λ (n : ℕ). ((front ++ 0x23 ∷ []) ++ x ∷ []) ++ slice_index upper_digits n ∷ []) l
    ∙ append_assoc (front ++ 0x23 ∷ []) (x ∷ []) (y ∷ []) ∙ append_assoc front (0x23 ∷ []) (x ∷ y ∷ [])

-- ---- the dot before a scope's labels

some_component : (octets text : List ℕ) → PrintsComponent octets octets text → 0 < length text
some_component octets text (inl p) = omega (arith, p.0.some, ap length p.1)
some_component octets text (inr p) = omega (arith, ap length p.1, length-append prefix (encode_lower octets))

dotted_some : (text : List ℕ) → 0 < length text → dotted text ≡ dot ∷ text
dotted_some [] h = absurd (omega (arith, h))
dotted_some (x ∷ xs) h = refl

pub behind_dot : (scope text rest : List ℕ) (x : ℕ) → PrintsLabels scope text → text ≡ x ∷ rest → dotted rest ≡ text
behind_dot _ _ rest x none_printed e = absurd cc
behind_dot _ _ rest x (label_printed octets scope component more printed others) e =
    let same : component ++ more ≡ rest = cc in
    subst (λ (r : List ℕ). dotted r ≡ dot ∷ component ++ more) same (dotted_some (component ++ more) (omega (arith, some_component octets component printed, length-append component more)))
