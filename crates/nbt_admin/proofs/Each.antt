-- Texts that are read one after the other.
use Rattle.std.proofs.Common.{◌≡◌, ℕ, List, [], ◌∷◌, ◌++◌, inr, refl, subst}
use Rattle.std.specs.Prelude.{Result, Ok, Err}
use Rattle.std.specs.Borrow.{Bor}
use Rattle.nbt_admin.specs.Reading.{Each, Then}
use Rattle.nbt_admin.specs.declared.failure.Failure.{Failure}

-- what stands past the end of a row of texts
abbrev pub no_text : Bor (List ℕ)
no_text = record { ref_ptr = (0, 0); now = [] }

-- one more is read, and the others come to this
pub one_on : {V : Type 0} (Read : List V → Bor (List ℕ) → Result V Failure → Type 0) (before new : List V) (text : Bor (List ℕ)) (rest others : List (Bor (List ℕ))) (value : V) (r : Result (List V) Failure)
    → rest ≡ text ∷ others → Read before text (Ok value) → new ≡ before ++ value ∷ [] → Each Read new others r → Each Read before rest r
one_on Read before new text rest others value (Ok values) parts read more x = rw parts (value, (read, rw (← more) x))
one_on Read before new text rest others value (Err failure) parts read more x = rw parts (inr (inr (value, (read, rw (← more) x))))

pub all_read : {V : Type 0} (Read : List V → Bor (List ℕ) → Result V Failure → Type 0) (values : List V) (rest : List (Bor (List ℕ))) → rest ≡ [] → Each Read values rest (Ok values)
all_read Read values rest none = rw none refl

-- no value stands before the first text
pub from_none : {V : Type 0} (Read : List V → Bor (List ℕ) → Result V Failure → Type 0) (before : List V) (given texts : List (Bor (List ℕ))) (r : Result (List V) Failure)
    → before ≡ [] → given ≡ texts → Each Read before given r → Each Read [] texts r
from_none Read before given texts r none same x = subst (λ (ts : List (Bor (List ℕ))). Each Read [] ts r) same (subst (λ (b : List _). Each Read b given r) none x)

-- the first step went well, and the next came to this
pub goes_on : {A B : Type 0} (First : Result A Failure → Type 0) (Next : A → Result B Failure → Type 0) (a : A) (r : Result B Failure) → First (Ok a) → Next a r → Then First Next r
goes_on First Next a (Ok value) first next = (a, (first, next))
goes_on First Next a (Err failure) first next = inr (inr (a, (first, next)))
