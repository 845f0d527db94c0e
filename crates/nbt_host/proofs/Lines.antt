-- The lines of names, one after the other.
use Rattle.std.proofs.Common.{◌≡◌, ℕ, ◌+◌, ◌<◌, List, [], ◌∷◌, ◌++◌, length, take, get_or, sym, subst, ◌∙◌, ap, arith, append-nil, append_assoc}
use Rattle.std.proofs.lemmas.List.{take_more, take_all}
use Rattle.nbt_text.proofs.Joining.{two_parts}
use Rattle.nbt_host.specs.TurnLines.{TellsAll, of_none, of_next}

-- six texts, one after the other
pub six_parts : (old a b c d e f one two three four five new : List ℕ) → one ≡ old ++ a → two ≡ one ++ b → three ≡ two ++ c → four ≡ three ++ d → five ≡ four ++ e → new ≡ five ++ f
    → new ≡ old ++ (a ++ b ++ c ++ d ++ e ++ f)
six_parts old a b c d e f one two three four five new g h i j k l = rw (l, k, j, i, h, g) (simp append_assoc)

abbrev pub Told : {A : Type 0} → (A → List ℕ → Type 0) → List A → (before after : List ℕ) → Type 0
Told tells goals before after = (text : List ℕ) × TellsAll tells goals text × (after ≡ before ++ text)

pub told_none : {A : Type 0} (tells : A → List ℕ → Type 0) (before : List ℕ) → Told tells [] before before
told_none tells before = ([], of_none, sym (append-nil before))

-- one more
pub told_on : {A : Type 0} (tells : A → List ℕ → Type 0) (names : List A) (i : ℕ) (name : A) (before mid after : List ℕ) → i < length names → name ≡ get_or names i name
    → Told tells (take i names) before mid → ((more : List ℕ) × tells name more × (after ≡ mid ++ more)) → Told tells (take (i + 1) names) before after
told_on {A} tells names i name before mid after lt is x y = (
  x.0 ++ y.0,
  subst (λ (ns : List A). TellsAll tells ns (x.0 ++ y.0)) (ap (λ (n : A). take i names ++ n ∷ []) is ∙ sym (take_more names i name lt)) (of_next (take i names) name x.0 y.0 x.1 y.1),
  two_parts before mid after x.0 y.0 x.2 y.2,
)

pub told_all : {A : Type 0} (tells : A → List ℕ → Type 0) (names : List A) (i : ℕ) (before after : List ℕ) → i ≡ length names → Told tells (take i names) before after → Told tells names before after
told_all {A} tells names i before after end x = (x.0, subst (λ (ns : List A). TellsAll tells ns x.0) (take_all i names (omega (arith, end))) x.1, x.2)
