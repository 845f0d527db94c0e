-- At each place stands one name or one fault: paths end, and a wire form is read back.
use Rattle.std.proofs.Common.{◌≡◌, ℕ, suc, ◌+◌, ◌-◌, ◌*◌, ◌<◌, ◌≤◌, List, [], ◌∷◌, ◌++◌, length, Result, Ok, Err, sym, ap, ◌∙◌, arith, Option, Some, refl}
use Rattle.nbt_name.proofs.Common.{slice_range, unwrap_or, IfOk, mul-le-mul_right, length-append, append-nil, NameFault, Form, NameValue, wire, Spot, Step, letters_pass, label_passes, pointer_leads, Stands, Fails, Path, here, onward, None, slice_get_within}
use Rattle.nbt_name.proofs.Walk.{fault_is_one, end_is_one, no_end_and_fault}
use Rattle.nbt_name.proofs.WireForms.{wire_apart}

-- ---- one name, one fault, and not both

pub one_name : (form : Form) (octets : List ℕ) (place : ℕ) (n m : NameValue) (x y : ℕ) → Stands form octets place n x → Stands form octets place m y → (n ≡ m) × (x ≡ y)
one_name form octets place n m x y a b =
    let same : a.spot ≡ b.spot = end_is_one a.path a.closes.later a.closes.zero b.path b.closes.later b.closes.zero in
    let forms : wire n ≡ wire m = sym a.closes.spells ∙ ap (λ (s : Spot). s.passed ++ 0 ∷ []) same ∙ b.closes.spells in
    let names = wire_apart n m [] [] a.closes.is_name b.closes.is_name (append-nil (wire n) ∙ forms ∙ sym (append-nil (wire m))) in
    (names.0, a.closes.next_is ∙ ap (λ (s : Spot). unwrap_or s.resume (s.place + 1)) same ∙ sym b.closes.next_is)

pub one_fault : (form : Form) (octets : List ℕ) (place : ℕ) (f g : NameFault) → Fails form octets place f → Fails form octets place g → f ≡ g
one_fault form octets place f g a b = fault_is_one f g a.path a.stuck b.path b.stuck

pub not_both : (form : Form) (octets : List ℕ) (place : ℕ) (n : NameValue) (x : ℕ) (f : NameFault) → Stands form octets place n x → Fails form octets place f → ⊥
not_both form octets place n x f a b = no_end_and_fault f a.path a.closes.later a.closes.zero b.path b.stuck

-- ---- steps come to an end

-- what is left to do: each label leaves less room, and each pointer leads to a smaller place
abbrev pub work : List ℕ → Spot → ℕ
work octets s = (255 - length s.passed) * suc (length octets) + s.place

less_work : (l a b p q : ℕ) → b < a → q ≤ l → b * suc l + q < a * suc l + p
less_work l a b p q lt le =
    let more : suc b * suc l ≤ a * suc l = mul-le-mul_right (suc l) lt in
    omega (arith, more)

pub step_within : {form : Form} (octets : List ℕ) {s t : Spot} → s.place ≤ length octets → Step form octets s t → t.place ≤ length octets
step_within octets within (letters_pass first finds fits are) = omega arith
step_within octets within (label_passes n later finds low high room fits) = fits
step_within octets within (pointer_leads high low compressed finds le at back) = omega arith

pub step_works : {form : Form} (octets : List ℕ) {s t : Spot} → s.place ≤ length octets → Step form octets s t → work octets t < work octets s
step_works octets {s} within (letters_pass first finds fits are) =
    let none : length s.passed ≡ 0 = ap length first in
    less_work (length octets) (255 - length s.passed) (255 - length (s.passed ++ 32 ∷ slice_range octets (s.place + 1) (s.place + 1 + 32))) s.place (s.place + 1 + 32)
    (omega (arith, length-append s.passed (32 ∷ slice_range octets (s.place + 1) (s.place + 1 + 32)))) (omega arith)
step_works octets {s} within (label_passes n later finds low high room fits) =
    less_work (length octets) (255 - length s.passed) (255 - length (s.passed ++ n ∷ slice_range octets (s.place + 1) (s.place + 1 + n))) s.place (s.place + 1 + n)
    (omega (arith, length-append s.passed (n ∷ slice_range octets (s.place + 1) (s.place + 1 + n)))) fits
step_works octets within (pointer_leads high low compressed finds le at back) = omega arith

-- ---- the place after a name is within the octets

step_resumes : {form : Form} (octets : List ℕ) {s t : Spot} → Step form octets s t → ((r : ℕ) → s.resume ≡ Some r → r ≤ length octets) → (r : ℕ) → t.resume ≡ Some r → r ≤ length octets
step_resumes octets (letters_pass first finds fits are) within r e = within r e
step_resumes octets (label_passes n later finds low high room fits) within r e = within r e
step_resumes octets {s} (pointer_leads high low compressed finds le at back) within r e =
    kept s.resume (s.place + 2) r (omega (arith, slice_get_within octets (s.place + 1) low at)) within e
  where
    kept : (o : Option ℕ) (d r : ℕ) → d ≤ length octets → ((q : ℕ) → o ≡ Some q → q ≤ length octets) → Some (unwrap_or o d) ≡ Some r → r ≤ length octets
    kept None d r le h e = let same : d ≡ r = cc in omega arith
    kept (Some q) d r le h e = let same : q ≡ r = cc in let below = h q refl in omega arith

path_resumes : {form : Form} (octets : List ℕ) {s t : Spot} → Path form octets s t → ((r : ℕ) → s.resume ≡ Some r → r ≤ length octets) → (r : ℕ) → t.resume ≡ Some r → r ≤ length octets
path_resumes octets (here s) within = within
path_resumes octets (onward s t u step others) within = path_resumes octets others (step_resumes octets step within)

pub next_within : (form : Form) (octets : List ℕ) (place : ℕ) (name : NameValue) (next : ℕ) → Stands form octets place name next → next ≤ length octets
next_within form octets place name next stands =
    let spot : Spot = stands.spot in
    after spot.resume (spot.place + 1) (omega (arith, slice_get_within octets spot.place 0 stands.closes.zero)) (path_resumes octets stands.path (λ r e. absurd cc)) next stands.closes.next_is
  where
    after : (o : Option ℕ) (d : ℕ) → d ≤ length octets → ((q : ℕ) → o ≡ Some q → q ≤ length octets) → (n : ℕ) → n ≡ unwrap_or o d → n ≤ length octets
    after None d le h n e = omega arith
    after (Some q) d le h n e = let below = h q refl in omega arith

pub result_within : (form : Form) (octets : List ℕ) (place : ℕ) (r : Result (NameValue × ℕ) NameFault) → IfOk r (λ read. Stands form octets place read.0 read.1) → IfOk r (λ read. read.1 ≤ length octets)
result_within form octets place (Ok read) a = next_within form octets place read.0 read.1 a
result_within form octets place (Err f) a = tt
