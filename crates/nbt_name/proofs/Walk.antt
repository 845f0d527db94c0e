-- Paths: one from each place to one end, and its steps.
use Rattle.std.proofs.Common.{◌≡◌, ℕ, suc, List, refl, sym, ap, subst, ◌∙◌}
use Rattle.nbt_name.proofs.Common.{NameFault, Form, Plain, Compressed, Spot, Finds, IsLater, Step, letters_pass, label_passes, pointer_leads, Path, here, onward, Stuck}
use Rattle.nbt_name.specs.Reading.{steps_on}
use Rattle.nbt_name.proofs.Seen.{moves, faults, ends, sight, step_seen, fault_seen, end_seen}

-- a path and one more step
pub Path-push : {form : Form} {octets : List ℕ} {s t : Spot} (u : Spot) → Path form octets s t → Step form octets t u → Path form octets s u
Path-push u (here s) step = onward s u u step (here u)
Path-push u (onward s t v first others) step = onward s t u first (Path-push u others step)

pub steps-push : {form : Form} {octets : List ℕ} {s t : Spot} (u : Spot) (p : Path form octets s t) (step : Step form octets t u) → steps_on (Path-push u p step) ≡ suc (steps_on p)
unfolding Path-push steps_on
steps-push u (here s) step = refl
steps-push u (onward s t v first others) step = ap suc (steps-push u others step)

-- where nothing moves on from, a path ends
record IsFinal (form : Form) (octets : List ℕ) (s : Spot) : Type 0 where
  stays : (t : Spot) → Step form octets s t → ⊥

moves_is : (t u : Spot) → moves t ≡ moves u → t ≡ u
moves_is t u e = cc

faults_is : (f g : NameFault) → faults f ≡ faults g → f ≡ g
faults_is f g e = cc

final_at_fault : (form : Form) (octets : List ℕ) (s : Spot) (f : NameFault) → Stuck form octets s f → IsFinal form octets s
final_at_fault form octets s f stuck = record { stays = λ t step. let e : moves t ≡ faults f = sym (step_seen form octets s t step) ∙ fault_seen form octets s f stuck in absurd cc }

final_at_end : (form : Form) (octets : List ℕ) (s : Spot) → IsLater s → Finds octets s 0 → IsFinal form octets s
final_at_end form octets s later finds = record { stays = λ t step. let e : moves t ≡ ends = sym (step_seen form octets s t step) ∙ end_seen form octets s later finds in absurd cc }

same_end : {form : Form} {octets : List ℕ} {s t u : Spot} → IsFinal form octets t → IsFinal form octets u → Path form octets s t → Path form octets s u → t ≡ u
same_end ft fu (here s) (here r) = refl
same_end ft fu (here s) (onward r v w step others) = absurd (ft.stays v step)
same_end ft fu (onward s v t step others) (here r) = absurd (fu.stays v step)
same_end {form} {octets} ft fu (onward s v t step others) (onward r w u step2 others2) =
    let e : v ≡ w = moves_is v w (sym (step_seen form octets s v step) ∙ step_seen form octets s w step2) in
    same_end ft fu others (subst (λ (x : Spot). Path form octets x u) (sym e) others2)

pub fault_is_one : {form : Form} {octets : List ℕ} {s t u : Spot} (f g : NameFault) → Path form octets s t → Stuck form octets t f → Path form octets s u → Stuck form octets u g → f ≡ g
fault_is_one {form} {octets} {s} {t} {u} f g p a q b =
    let e : t ≡ u = same_end (final_at_fault form octets t f a) (final_at_fault form octets u g b) p q in
    faults_is f g (sym (fault_seen form octets t f a) ∙ ap (sight form octets) e ∙ fault_seen form octets u g b)

pub end_is_one : {form : Form} {octets : List ℕ} {s t u : Spot} → Path form octets s t → IsLater t → Finds octets t 0 → Path form octets s u → IsLater u → Finds octets u 0 → t ≡ u
end_is_one {form} {octets} {s} {t} {u} p a b q c d = same_end (final_at_end form octets t a b) (final_at_end form octets u c d) p q

pub no_end_and_fault : {form : Form} {octets : List ℕ} {s t u : Spot} (f : NameFault) → Path form octets s t → IsLater t → Finds octets t 0 → Path form octets s u → Stuck form octets u f → ⊥
no_end_and_fault {form} {octets} {s} {t} {u} f p a b q stuck =
    let e : t ≡ u = same_end (final_at_end form octets t a b) (final_at_fault form octets u f stuck) p q in
    let clash : ends ≡ faults f = sym (end_seen form octets t a b) ∙ ap (sight form octets) e ∙ fault_seen form octets u f stuck in
    absurd cc

same_steps : {form : Form} {octets : List ℕ} {s r t u : Spot} → IsFinal form octets t → IsFinal form octets u → s ≡ r → (p : Path form octets s t) → (q : Path form octets r u) → steps_on p ≡ steps_on q
unfolding steps_on
same_steps ft fu e (here s) (here r) = refl
same_steps {form} {octets} ft fu e (here s) (onward r v w step others) = absurd (ft.stays v (subst (λ (x : Spot). Step form octets x v) (sym e) step))
same_steps {form} {octets} ft fu e (onward s v t step others) (here r) = absurd (fu.stays v (subst (λ (x : Spot). Step form octets x v) e step))
same_steps {form} {octets} ft fu e (onward s v t step others) (onward r w u step2 others2) =
    let next : v ≡ w = moves_is v w (sym (step_seen form octets s v step) ∙ ap (sight form octets) e ∙ step_seen form octets r w step2) in
    ap suc (same_steps ft fu next others others2)

-- a name or a fault is reached in one number of steps
pub end_in_steps : {form : Form} {octets : List ℕ} {s t u : Spot} (p : Path form octets s t) → IsLater t → Finds octets t 0 → (q : Path form octets s u) → IsLater u → Finds octets u 0 → steps_on p ≡ steps_on q
end_in_steps {form} {octets} {s} {t} {u} p a b q c d = same_steps (final_at_end form octets t a b) (final_at_end form octets u c d) refl p q

pub fault_in_steps : {form : Form} {octets : List ℕ} {s t u : Spot} (f g : NameFault) (p : Path form octets s t) → Stuck form octets t f → (q : Path form octets s u) → Stuck form octets u g → steps_on p ≡ steps_on q
fault_in_steps {form} {octets} {s} {t} {u} f g p a q b = same_steps (final_at_fault form octets t f a) (final_at_fault form octets u g b) refl p q

-- a plain path is a path
Step-compressed : {octets : List ℕ} {s t : Spot} → Step Plain octets s t → Step Compressed octets s t
Step-compressed (letters_pass a b c d) = letters_pass a b c d
Step-compressed (label_passes n a b c d e f) = label_passes n a b c d e f
Step-compressed (pointer_leads high low plain a b c d) = absurd cc

pub Path-compressed : {octets : List ℕ} {s t : Spot} → Path Plain octets s t → Path Compressed octets s t
Path-compressed (here s) = here s
Path-compressed (onward s t u step others) = onward s t u (Step-compressed step) (Path-compressed others)
