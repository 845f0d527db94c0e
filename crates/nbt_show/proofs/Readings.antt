-- What a reader returns: one value and how many octets it takes, or one fault.
use Rattle.std.proofs.Common.{◌≡◌, ℕ, Result, Ok, Err, sym, ◌∙◌, ap}
use Rattle.std.specs.Prelude.{◌↔◌}

abbrev pub Reads : {V F : Type 0} → (V → ℕ → Type 0) → Result (V × ℕ) F → Type 0
Reads {V} Is read = (value : V) (taken : ℕ) → (read ≡ Ok (value, taken)) ↔ Is value taken

pub nothing_there : {V F : Type 0} (Is : V → ℕ → Type 0) (read : Result (V × ℕ) F) (fault : F) (value : V) (taken : ℕ) → Reads Is read → read ≡ Err fault → Is value taken → ⊥
nothing_there Is read fault value taken reads e is = let one = (reads value taken).1 is in cc (sym e ∙ one)

pub taken_is_one : {V F : Type 0} (Is : V → ℕ → Type 0) (read : Result (V × ℕ) F) (value other : V) (taken n : ℕ) → Reads Is read → read ≡ Ok (value, taken) → Is other n → taken ≡ n
taken_is_one {V} Is read value other taken n reads e is =
    let same = sym e ∙ (reads other n).1 is in
    let pair : (value, taken) ≡ (other, n) = cc in ap (λ (x : V × ℕ). x.1) pair
