-- What is left to do for a reader that knows the length alone of the scope that it passed.
use Rattle.std.proofs.Common.{◌≡◌, ℕ, suc, ◌+◌, ◌-◌, ◌*◌, ◌<◌, ◌≤◌, List, [], length, Option, Some, None, ap, ◌∙◌, arith, refl}
use Rattle.nbt_name.proofs.Common.{ForNone, Form, Goes, HasPassed, length-append, letters, passed_of, Reader, spot_of}
use Rattle.nbt_name.proofs.Ends.{work, step_works}

-- how many octets it passed
abbrev pub passed_by : Reader → ℕ
passed_by r = length (passed_of r.first []) + r.scope

abbrev pub left : List ℕ → Reader → ℕ
left octets r = (255 - passed_by r) * suc (length octets) + r.place

length-passed_of : (first : Option (List ℕ)) (scope : List ℕ) → ForNone first (length scope ≡ 0) → length (passed_of first scope) ≡ length (passed_of first []) + length scope
length-passed_of None scope fresh = omega (arith, fresh refl)
length-passed_of (Some octets) scope fresh = omega (arith, length-append (letters octets) scope, length-append (letters octets) [])

pub left_is : (octets : List ℕ) (r : Reader) (scope : List ℕ) → HasPassed r scope → work octets (spot_of r scope) ≡ left octets r
left_is octets r scope size =
    let passed : length (passed_of r.first scope) ≡ passed_by r = length-passed_of r.first scope (λ e. size ∙ r.fresh e) ∙ ap (λ (n : ℕ). length (passed_of r.first []) + n) size in
    ap (λ (n : ℕ). (255 - n) * suc (length octets) + r.place) passed

pub goes_on : {form : Form} (octets : List ℕ) (old new : Reader) (scope : List ℕ) → HasPassed old scope → old.place ≤ length octets → Goes form octets (spot_of old scope) new → left octets new < left octets old
goes_on octets old new scope size within goes =
    rw (left_is octets new goes.0 goes.1, left_is octets old scope size) at (step_works octets within goes.2)
