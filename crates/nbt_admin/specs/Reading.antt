-- What comes of reading arguments: a value, or the first fault (our profile). Each step has one relation between its texts and the result;
-- memory may be out at any step.
use Rattle.std.specs.Prelude.{◌≡◌, ◌⊎◌, ℕ, List, [], ◌∷◌, ◌++◌, Option, Some, None, Result, Ok, Err}
use Rattle.std.specs.Borrow.{Bor}
use Rattle.std.specs.Result.{MatchResult}
use Rattle.nbt_admin.specs.Failures.{Reports, out_of_memory}
use Rattle.nbt_admin.specs.declared.failure.ArgumentFault.{ArgumentFault}
use Rattle.nbt_admin.specs.declared.failure.Failure.{Failure}

-- what a text spells; where it spells nothing, that is reported
abbrev pub Reads : {V : Type 0} → (Spells : V → Type 0) → (Reports : Failure → Type 0) → Result V Failure → Type 0
Reads Spells Reports result = MatchResult result Spells (λ failure. (failure ≡ out_of_memory) ⊎ (((value : _) → ¬ Spells value) × Reports failure))

-- this must hold, or it is reported
abbrev pub Needs : (Holds : Type 0) → (Reports : Failure → Type 0) → Result Unit Failure → Type 0
Needs Holds Reports result = MatchResult result (λ _. Holds) (λ failure. (failure ≡ out_of_memory) ⊎ ((¬ Holds) × Reports failure))

-- all was read: the value is such, or it is this one
abbrev pub Makes : {V : Type 0} → (Is : V → Type 0) → Result V Failure → Type 0
Makes Is result = MatchResult result Is (λ failure. failure ≡ out_of_memory)

abbrev pub Gives : {V : Type 0} → V → Result V Failure → Type 0
Gives value = Makes (λ given. given ≡ value)

-- one step and then another, which depends on the value of the first: the first failure counts
abbrev pub Then : {A B : Type 0} → (First : Result A Failure → Type 0) → (Next : A → Result B Failure → Type 0) → Result B Failure → Type 0
Then First Next result = MatchResult result (λ value. (a : _) × (First (Ok a) × Next a (Ok value))) (λ failure. (failure ≡ out_of_memory) ⊎ (First (Err failure) ⊎ ((a : _) × (First (Ok a) × Next a (Err failure)))))

-- a value that must also be such, or it is reported
abbrev pub Where : {V : Type 0} → (First : Result V Failure → Type 0) → (Holds : V → Type 0) → (Reports : Failure → Type 0) → Result V Failure → Type 0
Where First Holds Reports result = MatchResult result (λ value. First (Ok value) × Holds value) (λ failure. First (Err failure) ⊎ ((value : _) × (First (Ok value) × ((¬ Holds value) × Reports failure))))

-- of an option that was given, the text must be such, or this is reported
abbrev pub Fits : (Holds : List ℕ → Type 0) → ArgumentFault → Option (Bor (List ℕ)) → Result Unit Failure → Type 0
Fits Holds fault None = Gives tt
Fits Holds fault (Some text) = Needs (Holds text.now) (Reports text.now fault)

-- the value of an option, where it was given
abbrev pub IfGiven : {V : Type 0} → (Read : List ℕ → Result V Failure → Type 0) → Option (Bor (List ℕ)) → Result (Option V) Failure → Type 0
IfGiven Read None = Gives None
IfGiven Read (Some text) = Then (Read text.now) (λ value. Gives (Some value))

-- texts in their order, each beside the values before it
abbrev pub Each : {V : Type 0} → (Read : (before : List V) → Bor (List ℕ) → Result V Failure → Type 0) → (before : List V) → List (Bor (List ℕ)) → Result (List V) Failure → Type 0
Each Read before [] = Gives before
Each Read before (text ∷ texts) = Then (Read before text) (λ value. Each Read (before ++ value ∷ []) texts)
