-- The earliest of some times, as one more comes.
use Rattle.std.proofs.Common.{◌≡◌, ℕ, ◌+◌, ◌<◌, ◌≤◌, List, [], ◌∷◌, ◌++◌, length, get_or, take, map, Option, Some, None, unwrap_or, refl, sym, ap, ◌∙◌, subst, ⊎_elim, arith}
use Rattle.std.specs.Prelude.{min, All, Contains}
use Rattle.std.specs.List.{flat_map}
use Rattle.std.proofs.lemmas.Bool.{cases_lt}
use Rattle.std.proofs.lemmas.List.{take_more}
use Rattle.std.proofs.lemmas.List.Elements.{All-cons, All-nil, All-push, All-weaker, Contains-append_left, Contains-push}
use Rattle.nbt_confirm.specs.Waiting.{IsFirst}

pub one_more : (times : List ℕ) (first : Option ℕ) (other m : ℕ) → m ≡ min (unwrap_or first other) other → IsFirst times first → IsFirst (times ++ other ∷ []) (Some m)
one_more times None other m is none =
    let same : other ≡ m = omega (arith, is) in
    rw none ((0, omega arith, same), All-cons (λ (time : ℕ). m ≤ time) other [] (omega arith) (All-nil (λ (time : ℕ). m ≤ time)))
one_more times (Some first) other m is was =
    let others : All (λ (time : ℕ). m ≤ time) times = All-weaker (λ (time : ℕ). first ≤ time) (λ (time : ℕ). m ≤ time) (λ time later. omega arith) times was.1 in (
      ⊎_elim
          (λ (less : first < other). subst (Contains (times ++ other ∷ [])) (let e : first ≡ m = omega arith in e) (Contains-append_left times (other ∷ []) first was.0))
          (λ (late : other ≤ first). subst (Contains (times ++ other ∷ [])) (let e : other ≡ m = omega arith in e) (Contains-push times other))
          (cases_lt first other),
      All-push (λ (time : ℕ). m ≤ time) times other others (omega arith),
    )

map_push : {X : Type 0} (f : X → ℕ) (xs : List X) (x : X) → map f (xs ++ x ∷ []) ≡ map f xs ++ f x ∷ []
map_push f [] x = refl
map_push f (y ∷ xs) x = ap (λ (ns : List ℕ). f y ∷ ns) (map_push f xs x)

append_grouped : (xs ys zs : List ℕ) → (xs ++ ys) ++ zs ≡ xs ++ (ys ++ zs)
append_grouped [] ys zs = refl
append_grouped (x ∷ xs) ys zs = ap (λ (ns : List ℕ). x ∷ ns) (append_grouped xs ys zs)

append_none : (xs : List ℕ) → xs ++ [] ≡ xs
append_none [] = refl
append_none (x ∷ xs) = ap (λ (ns : List ℕ). x ∷ ns) (append_none xs)

flat_push : {X : Type 0} (f : X → List ℕ) (xs : List X) (x : X) → flat_map f (xs ++ x ∷ []) ≡ flat_map f xs ++ f x
flat_push f [] x = append_none (f x)
flat_push f (y ∷ xs) x = ap (λ (ns : List ℕ). f y ++ ns) (flat_push f xs x) ∙ sym (append_grouped (f y) (flat_map f xs) (f x))

-- one more element of a list
pub map_more : {X : Type 0} (f : X → ℕ) (xs : List X) (i : ℕ) (x : X) → i < length xs → x ≡ get_or xs i x → map f (take (i + 1) xs) ≡ map f (take i xs) ++ f x ∷ []
map_more {X} f xs i x within is =
    ap (map f) (take_more xs i x within ∙ ap (λ (y : X). take i xs ++ y ∷ []) (sym is)) ∙ map_push f (take i xs) x

pub flat_more : {X : Type 0} (f : X → List ℕ) (times : List ℕ) (xs : List X) (i : ℕ) (x : X) → i < length xs → x ≡ get_or xs i x → times ++ flat_map f (take (i + 1) xs) ≡ (times ++ flat_map f (take i xs)) ++ f x
flat_more {X} f times xs i x within is =
    ap (λ (ns : List ℕ). times ++ ns) (ap (flat_map f) (take_more xs i x within ∙ ap (λ (y : X). take i xs ++ y ∷ []) (sym is)) ∙ flat_push f (take i xs) x)
    ∙ sym (append_grouped times (flat_map f (take i xs)) (f x))
