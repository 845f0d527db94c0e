-- The reader's steps, as steps of its spot.
use Rattle.std.proofs.Common.{◌≡◌, ◌≢◌, ℕ, suc, ◌+◌, ◌-◌, List, [], ◌∷◌, ◌++◌, length, take, Option, Some, None, sym, ap, subst, ◌∙◌, arith, append_assoc, add-one}
use Rattle.nbt_name.proofs.Common.{slice_get, slice_range, ForNone, length-append, append-nil, letters, Form, Spot, Step, passed_of}
use Rattle.nbt_name.proofs.Letters.{length-letters}
use Rattle.nbt_name.proofs.Looks.{drop_found}

-- a spot by its parts
pub same_spot : (s t : Spot) → s.place ≡ t.place → s.passed ≡ t.passed → s.resume ≡ t.resume → s ≡ t
same_spot s t e f g = λ i. record { place = e i; passed = f i; resume = g i }

pub Step-to : {form : Form} {octets : List ℕ} {s : Spot} (t : Spot) (p : ℕ) (xs : List ℕ) (r : Option ℕ) → Step form octets s t → t.place ≡ p → t.passed ≡ xs → t.resume ≡ r
    → Step form octets s (record { place = p; passed = xs; resume = r })
Step-to {form} {octets} {s} t p xs r step e f g = subst (λ (u : Spot). Step form octets s u) (same_spot t (record { place = p; passed = xs; resume = r }) e f g) step

-- a slice from a place on is the octet there and the rest
pub range_at : (xs : List ℕ) (p n x : ℕ) → slice_get xs p ≡ Some x → slice_range xs p (p + 1 + n) ≡ x ∷ slice_range xs (p + 1) (p + 1 + n)
range_at xs p n x found =
    let left : (p + 1 + n) - p ≡ suc n = omega arith in
    let right : (p + 1 + n) - (p + 1) ≡ n = omega arith in
    rw (left, right, add-one p) (ap (take (suc n)) (drop_found xs p x found))

pub first_passed : (first : Option (List ℕ)) (scope : List ℕ) → first ≡ None → passed_of first scope ≡ []
first_passed first scope e = ap (λ (o : Option (List ℕ)). passed_of o scope) e

pub later_passed : (first : Option (List ℕ)) (scope sixteen : List ℕ) → first ≡ Some sixteen → passed_of first scope ≢ []
later_passed None scope sixteen e = absurd cc
later_passed (Some octets) scope sixteen e = λ f. absurd cc

pub length-passed : (first : Option (List ℕ)) (scope sixteen : List ℕ) → first ≡ Some sixteen → length sixteen ≡ 16 → length (passed_of first scope) ≡ 33 + length scope
length-passed None scope sixteen e n = absurd cc
length-passed (Some octets) scope sixteen e n =
    let same : octets ≡ sixteen = cc in
    let count : length octets ≡ 16 = cc in
    omega (arith, length-append (letters octets) scope, length-letters octets)

pub passed_push : (first : Option (List ℕ)) (scope sixteen more : List ℕ) → first ≡ Some sixteen → passed_of first (scope ++ more) ≡ passed_of first scope ++ more
passed_push None scope sixteen more e = absurd cc
passed_push (Some octets) scope sixteen more e = ap (λ (x : List ℕ). 0x20 ∷ x) (sym (append_assoc (letters octets) scope more))

-- the scope with the octets of a label at its end, as the octets passed
pub label_passed : (first : Option (List ℕ)) (scope sixteen octets new : List ℕ) (p n k : ℕ) → first ≡ Some sixteen → slice_get octets p ≡ Some n → k ≡ n
    → new ≡ scope ++ slice_range octets p (p + 1 + k) → passed_of first scope ++ n ∷ slice_range octets (p + 1) (p + 1 + n) ≡ passed_of first new
label_passed first scope sixteen octets new p n k e found same is =
    ap (λ (x : List ℕ). passed_of first scope ++ x) (sym (range_at octets p n n found))
    ∙ sym (passed_push first scope sixteen (slice_range octets p (p + 1 + n)) e)
    ∙ ap (passed_of first) (ap (λ (m : ℕ). scope ++ slice_range octets p (p + 1 + m)) (sym same) ∙ sym is)

-- the first label, as the octets passed
pub letters_passed : (first : Option (List ℕ)) (scope sixteen octets : List ℕ) (p : ℕ) → first ≡ None → ForNone first (scope ≡ []) → letters sixteen ≡ slice_range octets (p + 1) (p + 1 + 32)
    → passed_of first scope ++ 0x20 ∷ slice_range octets (p + 1) (p + 1 + 32) ≡ 0x20 ∷ letters sixteen ++ scope
letters_passed first scope sixteen octets p e fresh is =
    ap (λ (x : List ℕ). x ++ 0x20 ∷ slice_range octets (p + 1) (p + 1 + 32)) (first_passed first scope e)
    ∙ ap (λ (x : List ℕ). 0x20 ∷ x) (sym is ∙ sym (append-nil (letters sixteen)) ∙ ap (λ (x : List ℕ). letters sixteen ++ x) (sym (fresh e)))
