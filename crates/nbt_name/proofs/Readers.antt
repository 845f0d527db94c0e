-- Readers: in octets stands one value or one fault. A reader of a packet is put together from readers of names, of
-- numbers and of what is left, and so this is known of the whole from its parts.
use Rattle.std.proofs.Common.{◌≡◌, ℕ, ◌<◌, ◌≤◌, List, Result, Ok, Err, refl, sym, ap, subst, ◌∙◌, arith, inl, inr}
use Rattle.nbt_name.proofs.Common.{◌⊎◌, ◌↔◌, IfOk, IfErr, cases_lt, NameFault, Form, NameValue, AreOctets, Stands, Fails}
use Rattle.nbt_name.proofs.Ends.{one_name, one_fault, not_both}
use Rattle.nbt_name.proofs.Looking.{name_or_fault}

-- A value is right, or a fault is; it is one, and not both. That there is one may have a premise.
pub record Reads {X F : Type 0} (Premise : Type 0) (Is : X → Type 0) (Bad : F → Type 0) : Type 0 where
  pub found : Premise → ((x : X) × Is x) ⊎ ((f : F) × Bad f)
  pub one_value : (x y : X) → Is x → Is y → x ≡ y
  pub one_fault : (f g : F) → Bad f → Bad g → f ≡ g
  pub not_both : (x : X) (f : F) → Is x → Bad f → ⊥

-- ---- what was read is all that is right

module _ {X F Premise : Type 0} {Is : X → Type 0} {Bad : F → Type 0} (r : Reads Premise Is Bad) where
  pub value_iff : (g : Result X F) → IfOk g Is → IfErr g Bad → (x : X) → (g ≡ Ok x) ↔ Is x
  value_iff (Ok y) a b x = (λ e. let same : y ≡ x = cc in subst Is same a, λ is. ap {B = Result X F} Ok (r.one_value y x a is))
  value_iff (Err f) a b x = (λ e. absurd cc, λ is. absurd (r.not_both x f is b))

  pub fault_iff : (g : Result X F) → IfOk g Is → IfErr g Bad → (f : F) → (g ≡ Err f) ↔ Bad f
  fault_iff (Ok y) a b f = (λ e. absurd cc, λ bad. absurd (r.not_both y f a bad))
  fault_iff (Err g) a b f = (λ e. let same : g ≡ f = cc in subst Bad same b, λ bad. ap {B = Result X F} Err (r.one_fault g f b bad))

-- ---- the parts

-- what is so without a look at the octets
pub reads_this : {X F Premise : Type 0} (x : X) → Reads {X = X} {F = F} Premise (λ y. y ≡ x) (λ f. ⊥)
reads_this x = record {
  found = λ p. inl (x, refl);
  one_value = λ y z a b. a ∙ sym b;
  one_fault = λ f g a b. absurd a;
  not_both = λ y f a b. absurd b;
}

-- octets that reach up to an end; or a number that isn't above another; or else a fault
pub reads_up_to : {F Premise : Type 0} (end count : ℕ) (fault : F) → Reads {X = Unit {0}} {F = F} Premise (λ u. end ≤ count) (λ f. (f ≡ fault) × (count < end))
reads_up_to end count fault = record {
  found = λ p. elim (cases_lt count end) [ inl less ↦ inr (fault, (refl, less)) | inr within ↦ inl (tt, within) ];
  one_value = λ u v a b. refl;
  one_fault = λ f g a b. a.0 ∙ sym b.0;
  not_both = λ u f a b. omega (arith, a, b.1);
}

-- a name with the place after it, or its fault
pub reads_stands : (form : Form) (octets : List ℕ) (place : ℕ) → Reads {X = NameValue × ℕ} {F = NameFault} (AreOctets octets) (λ x. Stands form octets place x.0 x.1) (Fails form octets place)
reads_stands form octets place = record {
  found = λ fits. elim (name_or_fault form octets place fits) [ inl name ↦ inl ((name.0, name.1), name.2) | inr bad ↦ inr bad ];
  one_value = λ x y a b. (let same = one_name form octets place x.0 y.0 x.1 y.1 a b in λ i. (same.0 i, same.1 i));
  one_fault = one_fault form octets place;
  not_both = λ x. not_both form octets place x.0 x.1;
}

-- the same, where the fault is a packet's
pub reads_name : {F Premise : Type 0} (form : Form) (octets : List ℕ) → (Premise → AreOctets octets) → (fault_of : NameFault → F) (place : ℕ)
    → Reads {X = NameValue × ℕ} {F = F} Premise (λ x. Stands form octets place x.0 x.1) (λ f. (n : NameFault) × Fails form octets place n × (fault_of n ≡ f))
reads_name form octets fits fault_of place = record {
  found = λ p. elim ((reads_stands form octets place).found (fits p)) [ inl name ↦ inl name | inr bad ↦ inr (fault_of bad.0, (bad.0, bad.1, refl)) ];
  one_value = (reads_stands form octets place).one_value;
  one_fault = λ f g a b. sym a.2 ∙ ap fault_of (one_fault form octets place a.0 b.0 a.1 b.1) ∙ b.2;
  not_both = λ x f a b. not_both form octets place x.0 x.1 b.0 a b.1;
}

-- ---- how they are put together

-- a value, and after it another
pub reads_then : {X Y F Premise : Type 0} {Is : X → Type 0} {Bad : F → Type 0} {Next : X → Y → Type 0} {Ill : X → F → Type 0}
    → Reads Premise Is Bad → ((x : X) → Is x → Reads Premise (Next x) (Ill x))
    → Reads {X = Y} {F = F} Premise (λ y. (x : X) × Is x × Next x y) (λ f. Bad f ⊎ ((x : X) × Is x × Ill x f))
reads_then {X} {Y} {F} {Premise} {Is} {Bad} {Next} {Ill} first second = record {
  found = λ p. found_by p (first.found p);
  one_value = λ y z a b. (second a.0 a.1).one_value y z a.2 (subst (λ (x : X). Next x z) (first.one_value b.0 a.0 b.1 a.1) b.2);
  one_fault = one_bad;
  not_both = both;
}
  where
    found_by : Premise → ((x : X) × Is x) ⊎ ((f : F) × Bad f) → ((y : Y) × ((x : X) × Is x × Next x y)) ⊎ ((f : F) × (Bad f ⊎ ((x : X) × Is x × Ill x f)))
    found_by p (inr (f, bad)) = inr (f, inl bad)
    found_by p (inl (x, is)) = elim ((second x is).found p) [ inl y ↦ inl (y.0, (x, is, y.1)) | inr f ↦ inr (f.0, inr (x, is, f.1)) ]

    one_bad : (f g : F) → Bad f ⊎ ((x : X) × Is x × Ill x f) → Bad g ⊎ ((x : X) × Is x × Ill x g) → f ≡ g
    one_bad f g (inl a) (inl b) = first.one_fault f g a b
    one_bad f g (inl a) (inr (x, is, b)) = absurd (first.not_both x f is a)
    one_bad f g (inr (x, is, a)) (inl b) = absurd (first.not_both x g is b)
    one_bad f g (inr (x, is, a)) (inr (w, was, b)) = (second x is).one_fault f g a (subst (λ (v : X). Ill v g) (first.one_value w x was is) b)

    both : (y : Y) (f : F) → ((x : X) × Is x × Next x y) → Bad f ⊎ ((x : X) × Is x × Ill x f) → ⊥
    both y f a (inl b) = first.not_both a.0 f a.1 b
    both y f a (inr (w, was, b)) = (second a.0 a.1).not_both y f a.2 (subst (λ (v : X). Ill v f) (first.one_value w a.0 was a.1) b)

-- the values of other words, one for each
pub reads_as : {X Y F Premise : Type 0} {Is : X → Type 0} {Bad Ill : F → Type 0} {Also : Y → Type 0} (of : X → Y) → Reads Premise Is Bad
    → ((x : X) → Is x → Also (of x)) → ((y : Y) → Also y → (x : X) × Is x × (of x ≡ y)) → ((f : F) → Bad f → Ill f) → ((f : F) → Ill f → Bad f) → Reads Premise Also Ill
reads_as of r to from to_fault from_fault = record {
  found = λ p. elim (r.found p) [ inl x ↦ inl (of x.0, to x.0 x.1) | inr f ↦ inr (f.0, to_fault f.0 f.1) ];
  one_value = λ y z a b. (let x = from y a in let w = from z b in sym x.2 ∙ ap of (r.one_value x.0 w.0 x.1 w.1) ∙ w.2);
  one_fault = λ f g a b. r.one_fault f g (from_fault f a) (from_fault g b);
  not_both = λ y f a b. (let x = from y a in r.not_both x.0 f x.1 (from_fault f b));
}

-- the same values and faults in other words
pub reads_same : {X F Premise : Type 0} {Is Also : X → Type 0} {Bad Ill : F → Type 0} → Reads Premise Is Bad
    → ((x : X) → Is x → Also x) → ((x : X) → Also x → Is x) → ((f : F) → Bad f → Ill f) → ((f : F) → Ill f → Bad f) → Reads Premise Also Ill
reads_same {X} r to from to_fault from_fault = reads_as (λ (x : X). x) r to (λ x also. (x, from x also, refl)) to_fault from_fault
