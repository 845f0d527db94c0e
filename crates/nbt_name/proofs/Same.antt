-- Two names are one, or they are told apart.
use Rattle.std.proofs.Common.{◌≡◌, ◌≢◌, true, false, refl, sym, ap, ◌∙◌, inl, inr}
use Rattle.nbt_name.proofs.Common.{◌⊎◌, bytes_eq, and_parts, and_from, both_ways, cases_Bool, false_from_ne_true, bytes_eq-Decides, NameValue, same_name}

pub same_name-true : (a b : NameValue) → same_name a b ≡ true → a ≡ b
same_name-true a b e =
    let parts = and_parts (bytes_eq a.octets b.octets) (bytes_eq a.scope b.scope) e in
    λ i. record { octets = (bytes_eq-Decides a.octets b.octets).0 parts.0 i; scope = (bytes_eq-Decides a.scope b.scope).0 parts.1 i }

pub same_name-same : (a : NameValue) → same_name a a ≡ true
same_name-same a = and_from (bytes_eq a.octets a.octets) (bytes_eq a.scope a.scope) ((bytes_eq-Decides a.octets a.octets).1 refl) ((bytes_eq-Decides a.scope a.scope).1 refl)

pub same_name-other : (a b : NameValue) → a ≢ b → same_name a b ≡ false
same_name-other a b ne = false_from_ne_true (same_name a b) (λ e. ne (same_name-true a b e))

pub same_name-turned : (a b : NameValue) → same_name a b ≡ false → same_name b a ≡ false
same_name-turned a b h = same_name-other b a (λ e. both_ways (same_name a b) h (ap (λ (n : NameValue). same_name a n) e ∙ same_name-same a))

pub name_tells : (a b : NameValue) → ((same_name a b ≡ true) × (a ≡ b)) ⊎ ((same_name a b ≡ false) × (a ≢ b))
name_tells a b = elim (cases_Bool (same_name a b)) [
  | inl e ↦ inl (e, same_name-true a b e)
  | inr e ↦ inr (e, λ same. both_ways (same_name a b) e (ap (λ (n : NameValue). same_name a n) (sym same) ∙ same_name-same a))
]

pub names_apart : (a b : NameValue) → (a ≡ b) ⊎ (a ≢ b)
names_apart a b = elim (name_tells a b) [ inl one ↦ inl one.1 | inr two ↦ inr two.1 ]
