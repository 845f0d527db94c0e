-- Wire forms: none begins another, and what is passed on a path begins one.
use Rattle.std.proofs.Common.{◌≡◌, ℕ, zero, suc, ◌+◌, ◌-◌, ◌*◌, ◌<◌, ◌≤◌, List, [], ◌∷◌, ◌++◌, length, take, drop, refl, sym, ap, subst, ◌∙◌, arith, append_assoc}
use Rattle.nbt_name.proofs.Common.{slice_range, length-append, length-take, length-drop, take_at, drop_at, get_or-take, get_or-drop, append-nil, Form, IsScope, empty, label, NameValue, IsName, AreOctets, letters, name_of, wire, Spot, LettersAt, Step, letters_pass, label_passes, pointer_leads, Path, here, onward}
use Rattle.nbt_name.proofs.Letters.{length-letters, letters_spell, letters_apart, octets_cons, AreLetters}
use Rattle.nbt_name.proofs.Scopes.{IsScope-push}
use Rattle.nbt_name.proofs.Fits.{octets_range}

-- fronts of one length
pub split_front : (us vs x y : List ℕ) → length us ≡ length vs → us ++ x ≡ vs ++ y → (us ≡ vs) × (x ≡ y)
split_front us vs x y n e =
    (sym (take_at us x (length us) refl) ∙ ap (take (length us)) e ∙ take_at vs y (length us) (sym n), sym (drop_at us x (length us) refl) ∙ ap (drop (length us)) e ∙ drop_at vs y (length us) (sym n))

scope_apart : (a b x y : List ℕ) → IsScope a → IsScope b → a ++ 0 ∷ x ≡ b ++ 0 ∷ y → (a ≡ b) × (x ≡ y)
scope_apart _ _ x y empty empty e = (refl, cc)
scope_apart _ _ x y empty (label octets scope low high rest) e =
    let zero_is : 0 ≡ length octets = cc in absurd (omega arith)
scope_apart _ _ x y (label octets scope low high rest) empty e =
    let zero_is : length octets ≡ 0 = cc in absurd (omega arith)
scope_apart _ _ x y (label octets scope low high rest) (label octets2 scope2 low2 high2 rest2) e =
    let count : length octets ≡ length octets2 = cc in
    let tails : octets ++ scope ++ 0 ∷ x ≡ octets2 ++ scope2 ++ 0 ∷ y = cc in
    let parts = split_front octets octets2 (scope ++ 0 ∷ x) (scope2 ++ 0 ∷ y) count (sym (append_assoc octets scope (0 ∷ x)) ∙ tails ∙ append_assoc octets2 scope2 (0 ∷ y)) in
    let others = scope_apart scope scope2 x y rest rest2 parts.1 in
    let same : octets ++ scope ≡ octets2 ++ scope2 = ap (λ (s : List ℕ). octets ++ s) others.0 ∙ ap (λ (s : List ℕ). s ++ scope2) parts.0 in
    (cc, others.1)

-- no wire form begins another
pub wire_apart : (a b : NameValue) (x y : List ℕ) → IsName a → IsName b → wire a ++ x ≡ wire b ++ y → (a ≡ b) × (x ≡ y)
wire_apart a b x y is_a is_b e =
    let count : length (letters a.octets) ≡ length (letters b.octets) = length-letters a.octets ∙ ap (λ (n : ℕ). 2 * n) (is_a.sixteen ∙ sym is_b.sixteen) ∙ sym (length-letters b.octets) in
    let cut : (n : NameValue) (z : List ℕ) → wire n ++ z ≡ 0x20 ∷ (letters n.octets ++ (n.scope ++ 0 ∷ z)) = λ (n : NameValue) (z : List ℕ). ap (λ (s : List ℕ). 0x20 ∷ s) (append_assoc (letters n.octets ++ n.scope) (0 ∷ []) z ∙ append_assoc (letters n.octets) n.scope (0 ∷ z)) in
    let cells = sym (cut a x) ∙ e ∙ cut b y in
    let tails : letters a.octets ++ (a.scope ++ 0 ∷ x) ≡ letters b.octets ++ (b.scope ++ 0 ∷ y) = cc in
    let parts = split_front (letters a.octets) (letters b.octets) (a.scope ++ 0 ∷ x) (b.scope ++ 0 ∷ y) count tails in
    let same_octets : a.octets ≡ b.octets = letters_apart a.octets b.octets (is_a.sixteen ∙ sym is_b.sixteen) parts.0 in
    let rest = scope_apart a.scope b.scope x y is_a.labels is_b.labels parts.1 in
    ((λ i. record { octets = same_octets i; scope = rest.0 i }), rest.1)

-- What was passed: nothing, or the labels of a name.
pub data IsPassed (passed : List ℕ) : Type 0 where
  nothing : passed ≡ [] → IsPassed passed
  labels : (name : NameValue) → IsName name → passed ≡ 0x20 ∷ letters name.octets ++ name.scope → IsPassed passed

AreOctets-append : (xs ys : List ℕ) → AreOctets xs → AreOctets ys → AreOctets (xs ++ ys)
AreOctets-append [] ys fx fy k = fy k
AreOctets-append (x ∷ xs) ys fx fy zero = fx zero
AreOctets-append (x ∷ xs) ys fx fy (suc k) = AreOctets-append xs ys (λ i. fx (suc i)) fy k

-- n octets from a place on, where they stand
pub length-range : (octets : List ℕ) (p n : ℕ) → p + n ≤ length octets → length (slice_range octets p (p + n)) ≡ n
length-range octets p n fits = omega (arith, length-take ((p + n) - p) (drop p octets), length-drop p octets)

letters_in_range : (octets : List ℕ) (p n : ℕ) → p + n ≤ length octets → LettersAt octets p n → AreLetters (slice_range octets p (p + n))
letters_in_range octets p n fits are k lt =
    let below : k < n = omega (arith, length-range octets p n fits) in
    let below2 : k < (p + n) - p = omega arith in
    rw (get_or-take ((p + n) - p) (drop p octets) k 0 below2, get_or-drop p octets k 0) (are k below)

pub step_passed : {form : Form} (octets : List ℕ) {s t : Spot} → AreOctets octets → Step form octets s t → IsPassed s.passed → IsPassed t.passed
step_passed octets {s} fits (letters_pass first finds within are) passed =
    let place : s.place + 1 + 32 ≤ length octets = omega arith in
    let spelled = letters_spell 16 (slice_range octets (s.place + 1) (s.place + 1 + 32)) (length-range octets (s.place + 1) 32 place) (letters_in_range octets (s.place + 1) 32 place are) in
    labels (name_of spelled.0 []) (record { sixteen = spelled.1; fits = omega arith; labels = empty; octets_fit = spelled.2; scope_fits = λ k. omega arith })
    (ap (λ (x : List ℕ). x ++ 0x20 ∷ slice_range octets (s.place + 1) (s.place + 1 + 32)) first ∙ ap (λ (x : List ℕ). 0x20 ∷ x) (sym spelled.3 ∙ sym (append-nil (letters spelled.0))))
step_passed octets fits (label_passes n later finds low high room within) (nothing e) = absurd (later e)
step_passed octets {s} fits (label_passes n later finds low high room within) (labels name is_name e) =
    let behind : List ℕ = slice_range octets (s.place + 1) (s.place + 1 + n) in
    let count : length behind ≡ n = length-range octets (s.place + 1) n within in
    let all_fit : AreOctets behind = octets_range octets (s.place + 1) (s.place + 1 + n) fits in
    let long : length s.passed ≡ 33 + length name.scope = ap length e ∙ (omega (arith, length-append (letters name.octets) name.scope, length-letters name.octets, is_name.sixteen)) in
    let scope_is : List ℕ = name.scope ++ n ∷ behind in
    labels (name_of name.octets (name.scope ++ n ∷ behind))
    (record {
      sixteen = is_name.sixteen;
      fits = omega (arith, length-append name.scope (n ∷ behind));
      labels = subst (λ (m : ℕ). IsScope (name.scope ++ m ∷ behind)) count (IsScope-push name.scope behind is_name.labels (omega arith) (omega arith));
      octets_fit = is_name.octets_fit;
      scope_fits = AreOctets-append name.scope (n ∷ behind) is_name.scope_fits (octets_cons n behind (omega arith) all_fit);
    })
    (ap (λ (x : List ℕ). x ++ n ∷ behind) e ∙ ap (λ (x : List ℕ). 0x20 ∷ x) (append_assoc (letters name.octets) name.scope (n ∷ behind)))
step_passed octets fits (pointer_leads high low compressed finds le at back) passed = passed

pub path_passed : {form : Form} (octets : List ℕ) {s t : Spot} → AreOctets octets → Path form octets s t → IsPassed s.passed → IsPassed t.passed
path_passed octets fits (here s) passed = passed
path_passed octets fits (onward s t u step others) passed = path_passed octets fits others (step_passed octets fits step passed)

-- the labels passed on the way to the closing zero are a name's
pub closed_name : (octets : List ℕ) (sixteen scope : List ℕ) → length sixteen ≡ 16 → IsPassed (0x20 ∷ letters sixteen ++ scope) → IsName (name_of sixteen scope)
closed_name octets sixteen scope n (nothing e) = absurd cc
closed_name octets sixteen scope n (labels name is_name e) =
    let tails : letters sixteen ++ scope ≡ letters name.octets ++ name.scope = cc in
    let count : length (letters sixteen) ≡ length (letters name.octets) = length-letters sixteen ∙ ap (λ (k : ℕ). 2 * k) (n ∙ sym is_name.sixteen) ∙ sym (length-letters name.octets) in
    let parts = split_front (letters sixteen) (letters name.octets) scope name.scope count tails in
    let same : sixteen ≡ name.octets = letters_apart sixteen name.octets (n ∙ sym is_name.sixteen) parts.0 in
    rw (same, parts.1) is_name
