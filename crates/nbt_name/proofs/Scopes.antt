-- Scopes, label by label.
use Rattle.std.proofs.Common.{◌≡◌, ℕ, ◌<◌, ◌≤◌, List, [], ◌∷◌, ◌++◌, length, take, drop, sym, ap, subst, arith, append_assoc, ◌-◌, inl, inr}
use Rattle.nbt_name.proofs.Common.{◌↔◌, ◌⊎◌, append-nil, length-append, length-take, take-append-drop, drop_at, take_rest, IsScope, empty, label}

-- a label at the end
pub IsScope-push : (scope octets : List ℕ) → IsScope scope → 1 ≤ length octets → length octets ≤ 63 → IsScope (scope ++ length octets ∷ octets)
IsScope-push _ octets empty low high = subst IsScope (ap (λ (x : List ℕ). length octets ∷ x) (append-nil octets)) (label octets [] low high empty)
IsScope-push _ octets (label first rest lo hi scope) low high =
    subst IsScope (ap (λ (x : List ℕ). length first ∷ x) (sym (append_assoc first rest (length octets ∷ octets)))) (label first (rest ++ length octets ∷ octets) lo hi (IsScope-push rest octets scope low high))

-- a label at the front
pub IsScope-parts : (s : List ℕ) (n : ℕ) (xs : List ℕ) → IsScope s → s ≡ n ∷ xs → (1 ≤ n) × (n ≤ 63) × (n ≤ length xs) × IsScope (drop n xs)
IsScope-parts _ n xs empty e = absurd cc
IsScope-parts _ n xs (label octets scope low high rest) e =
    let count : length octets ≡ n = cc in
    let behind : octets ++ scope ≡ xs = cc in
    let after : drop n xs ≡ scope = rw (← behind) (drop_at octets scope n count) in
    (omega arith, omega arith, omega (arith, ap length behind, length-append octets scope), rw after rest)

pub IsScope-from_parts : (n : ℕ) (xs : List ℕ) → 1 ≤ n → n ≤ 63 → n ≤ length xs → IsScope (drop n xs) → IsScope (n ∷ xs)
IsScope-from_parts n xs low high fits rest =
    let count : length (take n xs) ≡ n = omega (arith, length-take n xs) in
    subst (λ (k : ℕ). IsScope (k ∷ xs)) count (subst (λ (ys : List ℕ). IsScope (length (take n xs) ∷ ys)) (take-append-drop n xs) (label (take n xs) (drop n xs) (omega arith) (omega arith) rest))

-- a loop's turn: the labels of a scope go on after its first one
pub scope_behind : (scope rest labels : List ℕ) (first n : ℕ) → rest ≡ first ∷ labels → n ≡ first → 1 ≤ n → n ≤ 63 → n ≤ length labels → IsScope scope ↔ IsScope rest
    → IsScope scope ↔ IsScope (take (length labels - n) (drop n labels))
scope_behind scope rest labels first n e m low high fits both =
    let cells : rest ≡ n ∷ labels = rw m e in
    let after : take (length labels - n) (drop n labels) ≡ drop n labels = take_rest labels n in
    (λ is. rw after (IsScope-parts rest n labels (both.0 is) cells).3, λ is. both.1 (rw cells (IsScope-from_parts n labels low high fits (rw after at is))))

-- and where no label stands in front, there is no scope
pub no_scope : (scope rest labels : List ℕ) (first n : ℕ) → rest ≡ first ∷ labels → n ≡ first → ((n ≡ 0) ⊎ ((63 < n) ⊎ (length labels < n))) → IsScope scope ↔ IsScope rest → ¬ IsScope scope
no_scope scope rest labels first n e m cause both is =
    let cells : rest ≡ n ∷ labels = rw m e in
    let parts = IsScope-parts rest n labels (both.0 is) cells in
    elim cause [
      | inl zero_is ↦ omega (arith, parts.0)
      | inr (inl long) ↦ omega (arith, parts.1)
      | inr (inr cut) ↦ omega (arith, parts.2)
    ]
