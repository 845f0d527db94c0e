-- Items of a list, each once at most, in any order.
use Rattle.std.proofs.Common.{◌≡◌, List, [], ◌∷◌, ◌++◌, refl, sym, subst}
use Rattle.nbt_serve.specs.Runs.{TakesOne, here, there, AreAmong}

-- ---- one of them is taken

-- what stands behind both
takes_on : {A : Type 0} (x : A) (ys zs us : List A) → TakesOne x ys zs → TakesOne x (ys ++ us) (zs ++ us)
takes_on x _ _ us (here ys) = here (ys ++ us)
takes_on x _ _ us (there y ys zs t) = there y (ys ++ us) (zs ++ us) (takes_on x ys zs us t)

takes_middle : {A : Type 0} (x : A) (ys zs : List A) → TakesOne x (ys ++ x ∷ zs) (ys ++ zs)
takes_middle x [] zs = here zs
takes_middle x (y ∷ ys) zs = there y (ys ++ x ∷ zs) (ys ++ zs) (takes_middle x ys zs)

-- one and then another: the other may be taken first
record Exchanged {A : Type 0} (x y : A) (all left : List A) : Type 0 where
  rest : List A
  first : TakesOne y all rest
  other : TakesOne x rest left

exchanged_in : {A : Type 0} (x y : A) (all mid mid' left : List A) → TakesOne x all mid → mid ≡ mid' → TakesOne y mid' left → Exchanged x y all left
exchanged_in x y _ _ mid' left (here ys) is t = record { rest = x ∷ left; first = there x ys left (subst (λ ms. TakesOne y ms left) (sym is) t); other = here left }
exchanged_in {A} x y _ _ _ _ (there z ys zs t) is (here ws) =
    let same : z ≡ y = cc in
    let rest : zs ≡ ws = cc in
    record { rest = ys; first = subst (λ (q : A). TakesOne y (q ∷ ys) ys) (sym same) (here ys); other = subst (TakesOne x ys) rest t }
exchanged_in {A} x y _ _ _ _ (there z ys zs t) is (there q ws left u) =
    let same : z ≡ q = cc in
    let rest : zs ≡ ws = cc in
    let e = exchanged_in x y ys zs ws left t rest u in
    record { rest = z ∷ e.rest; first = there z ys e.rest e.first; other = subst (λ (r : A). TakesOne x (z ∷ e.rest) (r ∷ left)) same (there z e.rest left e.other) }

exchanged : {A : Type 0} (x y : A) (all mid left : List A) → TakesOne x all mid → TakesOne y mid left → Exchanged x y all left
exchanged x y all mid left t u = exchanged_in x y all mid mid left t refl u

-- ---- and many

among_on : {A : Type 0} (xs ys us : List A) → AreAmong xs ys → AreAmong xs (ys ++ us)
among_on [] ys us a = tt
among_on (x ∷ xs) ys us a = (a.0 ++ us, takes_on x ys a.0 us a.1, among_on xs a.0 us a.2)

-- of what is left, and one more
among_more : {A : Type 0} (z : A) (xs ys zs : List A) → TakesOne z ys zs → AreAmong xs zs → AreAmong xs ys
among_more z [] ys zs t a = tt
among_more z (x ∷ xs) ys zs t a = let e = exchanged z x ys zs a.0 t a.1 in (e.rest, e.first, among_more z xs e.rest a.0 e.other a.2)

among_back : {A : Type 0} (ys zs : List A) → AreAmong zs (ys ++ zs)
among_back ys [] = tt
among_back ys (z ∷ zs) = (ys ++ zs, takes_middle z ys zs, among_back ys zs)

pub among_behind : {A : Type 0} (xs ys zs : List A) → AreAmong xs ys → AreAmong (xs ++ zs) (ys ++ zs)
among_behind [] ys zs a = among_back ys zs
among_behind (x ∷ xs) ys zs a = (a.0 ++ zs, takes_on x ys a.0 zs a.1, among_behind xs a.0 zs a.2)

-- some more, in the middle
first_of : {A : Type 0} (ws ys zs : List A) → AreAmong ws ys → AreAmong (zs ++ ws) (ys ++ zs)
first_of ws ys [] a = among_on ws ys [] a
first_of ws ys (z ∷ zs) a = (ys ++ zs, takes_middle z ys zs, first_of ws ys zs a)

pub among_inside : {A : Type 0} (xs ws ys zs : List A) → AreAmong (xs ++ ws) ys → AreAmong ((xs ++ zs) ++ ws) (ys ++ zs)
among_inside [] ws ys zs a = first_of ws ys zs a
among_inside (x ∷ xs) ws ys zs a = (a.0 ++ zs, takes_on x ys a.0 zs a.1, among_inside xs ws a.0 zs a.2)

-- the first part
pub among_front : {A : Type 0} (xs zs ys : List A) → AreAmong (xs ++ zs) ys → AreAmong xs ys
among_front [] zs ys a = tt
among_front (x ∷ xs) zs ys a = (a.0, a.1, among_front xs zs a.0 a.2)

-- without one in the middle
pub among_without : {A : Type 0} (xs : List A) (z : A) (zs ys : List A) → AreAmong (xs ++ z ∷ zs) ys → AreAmong (xs ++ zs) ys
among_without [] z zs ys a = among_more z zs ys a.0 a.1 a.2
among_without (x ∷ xs) z zs ys a = (a.0, a.1, among_without xs z zs a.0 a.2)
