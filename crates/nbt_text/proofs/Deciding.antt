-- Digits in hexadecimal, and what is known of an option.
use Rattle.std.proofs.Common.{◌≡◌, ℕ, ◌*◌, ◌<◌, ◌^◌, List, length, Option, Some, None, Result, Ok, Err, sym, ◌∙◌, ap, refl, subst, arith}
use Rattle.std.specs.Prelude.{◌↔◌, IfOk, IfErr, IfSome, IfNone}
use Rattle.std.specs.Option.{SomeIff}
use Rattle.std.specs.Result.{result_ok}
use Rattle.hex.specs.Hex.{decode_of, decode_sized}
use Rattle.hex.specs.declared.error.FromHexError.{FromHexError}
use Rattle.hex.proofs.HexLemmas.{decode_of-ok, decode_sized-twice}

pub if_none : {A : Type 0} (P : Type 0) (r : Option A) → (r ≡ None → P) → IfNone r P
if_none P None h = h refl
if_none P (Some x) h = tt

pub if_some : {A : Type 0} (P : A → Type 0) (r : Option A) → ((x : A) → r ≡ Some x → P x) → IfSome r P
if_some P None h = tt
if_some P (Some x) h = h x refl

pub no_such : {A : Type 0} (r : Option A) (a : A) (P : Type 0) → r ≡ None → ¬ P → (r ≡ Some a) ↔ P
no_such r a P none other = (λ e. absurd cc, λ p. absurd (other p))

-- digits that are read have a buffer for their octets
pub not_sized : (digits bytes : List ℕ) (n : ℕ) (r : Result (List ℕ) FromHexError) (x : Option (List ℕ)) → r ≡ decode_sized digits n → x ≡ result_ok r → x ≡ None → decode_of digits ≡ Ok bytes → length bytes ≡ n → ⊥
not_sized digits bytes n r x e f none d len =
    let twice : length digits ≡ 2 * n = omega (arith, (decode_of-ok digits bytes d).2, len) in
    let ok : r ≡ Ok bytes = e ∙ decode_sized-twice digits n twice ∙ d in
    let found : x ≡ Some bytes = f ∙ ap result_ok ok in
    absurd cc

-- ---- what is known of an option

pub IfSome-map : {A : Type 0} (P Q : A → Type 0) (r : Option A) → IfSome r P → ((a : A) → P a → Q a) → IfSome r Q
IfSome-map P Q None h f = tt
IfSome-map P Q (Some a) h f = f a h

-- a product that was found, and one that was not
pub found_product : (r : Option ℕ) (x y : ℕ) (P : Type 0) → SomeIff r (x * y < 2 ^ 64) (x * y) → (time : ℕ) → (time ≡ x * y → time < 2 ^ 64 → P) → r ≡ Some time → P
found_product None x y P h time f e = absurd cc
found_product (Some z) x y P h time f e =
    let same : z ≡ time = cc in
    let is : time ≡ x * y = sym same ∙ h.1 in
    f is (rw is h.0)

pub product_found : (r : Option ℕ) (x y time : ℕ) → SomeIff r (x * y < 2 ^ 64) (x * y) → time ≡ x * y → time < 2 ^ 64 → r ≡ Some time
product_found None x y time h is fits = absurd (h (rw (← is) fits))
product_found (Some z) x y time h is fits = ap Some (h.1 ∙ sym is)

pub one_number : (x y : ℕ) → Some x ≡ Some y → x ≡ y
one_number x y e = cc

-- ---- one of two outcomes

pub told_exactly : {A E : Type 0} (P : A → Type 0) (Q : E → Type 0) (r : Result A E) → IfOk r P → IfErr r Q → ((a b : A) → P a → P b → a ≡ b) → ((a : A) (e : E) → P a → Q e → ⊥) → (a : A) → (r ≡ Ok a) ↔ P a
told_exactly P Q (Ok x) p q one apart a = (λ e. let same : x ≡ a = cc in subst P same p, λ h. ap Ok (one x a p h))
told_exactly P Q (Err x) p q one apart a = (λ e. absurd cc, λ h. absurd (apart a x h q))

pub failed_exactly : {A E : Type 0} (P : A → Type 0) (Q : E → Type 0) (r : Result A E) → IfOk r P → IfErr r Q → ((a b : E) → Q a → Q b → a ≡ b) → ((a : A) (e : E) → P a → Q e → ⊥) → (e : E) → (r ≡ Err e) ↔ Q e
failed_exactly P Q (Ok x) p q one apart b = (λ e. absurd cc, λ h. absurd (apart x b p h))
failed_exactly P Q (Err x) p q one apart b = (λ e. let same : x ≡ b = cc in subst Q same q, λ h. ap Err (one x b q h))
