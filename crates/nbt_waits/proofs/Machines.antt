-- The addresses that a machine listed, and which of them is a further one.
use Rattle.std.proofs.Common.{◌≡◌, ℕ, true, false, List, Some, None, refl, ap, ◌∙◌, subst}
use Rattle.std.specs.Prelude.{◌≢◌, ◌↔◌, nat_eq, Option, Contains, IsSome, IfSome, slice_index_or}
use Rattle.std.specs.List.{list_any}
use Rattle.std.proofs.lemmas.Bool.{eq-eqb, eqb-true, eqb-false, ne_eqb}
use Rattle.std.proofs.lemmas.List.Folds.{Any-from_list_any, list_any-from_Any}
use Rattle.nbt_name.specs.Wire.{NameValue}
use Rattle.nbt_confirm.specs.Inquiries.{ConfirmedValue, IsFurther, MachineValue}
use Rattle.nbt_waits.specs.Settling.{further_of}

has_one : (addrs : List ℕ) (addr : ℕ) → Contains addrs addr → list_any (λ other. nat_eq other addr) addrs ≡ true
has_one addrs addr (k, within, is) = list_any-from_Any (λ (other : ℕ). nat_eq other addr) addrs (k, addr, within, is, eq-eqb addr addr refl)

finds_one : (addrs : List ℕ) (addr : ℕ) → list_any (λ other. nat_eq other addr) addrs ≡ true → Contains addrs addr
finds_one addrs addr found =
    let (k, other, within, is, same) = Any-from_list_any (λ (other : ℕ). nat_eq other addr) addrs found in
    (k, within, subst (λ (n : ℕ). slice_index_or addrs k n ≡ n) (eqb-true other addr same) is)

all_same : (c : ConfirmedValue) (name : NameValue) (holder addr : ℕ) → c.name ≡ name → c.holder ≡ holder → c.addr ≡ addr → c ≡ record { name = name; holder = holder; addr = addr }
all_same c name holder addr same held at =
    let with : NameValue → ℕ → ℕ → ConfirmedValue = λ n h a. record { name = n; holder = h; addr = a } in
    ap (λ (n : NameValue). with n c.holder c.addr) same ∙ (ap (λ (h : ℕ). with name h c.addr) held ∙ ap (λ (a : ℕ). with name holder a) at)

pub further_is : (machine : MachineValue) (addr : ℕ) (found : Option ConfirmedValue) → IsSome found ↔ (Contains machine.addrs addr × (addr ≢ machine.asked)) → IfSome found (IsFurther machine)
    → IfSome found (λ c. c.addr ≡ addr) → found ≡ further_of machine addr
further_is machine addr (Some c) is further at =
    let listed = has_one machine.addrs addr (subst (Contains machine.addrs) at further.listed_is) in
    let other = ne_eqb addr machine.asked (λ same. further.other (at ∙ same)) in
    rw (listed, other) (ap Some (all_same c machine.name machine.asked addr further.name_is further.holder_is at))
further_is machine addr None is further at = elim (list_any (λ other. nat_eq other addr) machine.addrs) as (λ b. list_any (λ other. nat_eq other addr) machine.addrs ≡ b → None ≡ further_of machine addr) [
  | false ↦ λ unlisted. rw unlisted refl
  | true ↦ λ listed. elim (nat_eq addr machine.asked) as (λ b. nat_eq addr machine.asked ≡ b → None ≡ further_of machine addr) [
    | true ↦ λ same. rw (listed, same) refl
    | false ↦ λ other. let some = is.1 (finds_one machine.addrs addr listed, eqb-false addr machine.asked other) in absurd cc
  ] refl
] refl
