-- Which response confirms, and what it lists.
use Rattle.std.proofs.Common.{◌≡◌, ℕ, zero, suc, ◌<◌, ◌^◌, true, false, Bool, List, [], ◌∷◌, Some, refl, sym, ap, ◌∙◌, subst, arith}
use Rattle.std.specs.Prelude.{◌&&◌, nat_eq, Any, Contains}
use Rattle.std.specs.List.{find}
use Rattle.std.proofs.lemmas.Bool.{eqb-true}
use Rattle.nbt_name.specs.Wire.{NameValue, same_name}
use Rattle.nbt_name.specs.declared.addr.Addr.{Addr}
use Rattle.nbt_name.specs.declared.addr.Kind.{Kind}
use Rattle.nbt_name.specs.declared.addr.Kind.TheVariants.{Unique, Group}
use Rattle.nbt_name.proofs.Behind.{long_back}
use Rattle.nbt_name.proofs.Same.{same_name-true}
use Rattle.nbt_packet.specs.Message.{MessageValue, found}
use Rattle.nbt_packet.specs.Spelling.{Spells}
use Rattle.nbt_packet.specs.Text.{entry}
use Rattle.nbt_confirm.specs.declared.inquiry.Inquiry.{Inquiry}
use Rattle.nbt_confirm.specs.declared.waits.Pending.{Pending}
use Rattle.nbt_confirm.specs.Inquiries.{ResponseValue, MachineValue, ConfirmedValue, IsResponse, Confirms, IsFurther, ListsItselfAlone, is_answered_by, machine_by, listed}
use Rattle.nbt_confirm.specs.Waiting.{Hears, answered, is_answered}

-- what is found passes, and is there
found_passes : {X : Type 0} (test : X → Bool) (xs : List X) (x : X) → find test xs ≡ Some x → (test x ≡ true) × Contains xs x
found_passes test [] x is = absurd cc
found_passes test (y ∷ ys) x is = elim (test y) as (λ b. test y ≡ b → (test x ≡ true) × Contains (y ∷ ys) x) [
  | true ↦ λ passes.
      let same : y ≡ x = let e : Some y ≡ Some x = rw passes at is in cc in
      (rw (← same) passes, (0, omega arith, same))
  | false ↦ λ fails.
      let behind = found_passes test ys x (rw fails at is) in
      (behind.0, (suc behind.1.0, omega (arith, behind.1.1), behind.1.2))
] refl

both : (a b : Bool) → a && b ≡ true → (a ≡ true) × (b ≡ true)
both true true is = (refl, refl)
both true false is = absurd cc
both false b is = absurd cc

response_confirms : (i : Inquiry) (from : Addr) (octets : List ℕ) (r : ResponseValue) → IsResponse from octets r → is_answered_by r i ≡ true → Confirms i from octets (machine_by i r)
response_confirms i from octets r is answers =
    let first = both (same_name i.name r.name && nat_eq i.asked r.addr) (nat_eq i.id r.id) answers in
    let second = both (same_name i.name r.name) (nat_eq i.asked r.addr) first.0 in
    let name = same_name-true i.name r.name second.0 in
    let asked = eqb-true i.asked r.addr second.1 in
    let id = eqb-true i.id r.id first.1 in
    record {
      asked_is = sym is.addr_is ∙ sym asked;
      port_is = is.port_is;
      few_octets = is.few_octets;
      ttl = is.ttl;
      entries = r.entries;
      cut = is.cut;
      spelled = subst (λ (n : NameValue). Spells octets (found i.id n is.ttl r.entries is.cut)) (sym name) (subst (λ (k : ℕ). Spells octets (found k r.name is.ttl r.entries is.cut)) (sym id) is.spelled);
      few_entries = is.few_entries;
      machine_is = refl;
    }

pub heard : (from : Addr) (octets : List ℕ) (old new : List Pending) (machine : MachineValue) → Hears from octets old (Some machine) new → Any (λ p. Confirms p.inquiry from octets machine) old
heard from octets old new machine (answered r p is there) =
    let at = found_passes (is_answered r) old p there in
    (at.1.0, p, at.1.1, at.1.2, response_confirms p.inquiry from octets r is at.0)

-- one entry lists its own address, or none
one_listed : (kind own : Kind) (addr : ℕ) → addr < 2 ^ 32 → (other : ℕ) → Contains (listed kind (entry own addr)) other → other ≡ addr
one_listed Unique Unique addr fits other (zero, within, is) = sym is ∙ long_back addr [] fits
one_listed Unique Unique addr fits other (suc k, within, is) = absurd (omega (arith, within))
one_listed Group Group addr fits other (zero, within, is) = sym is ∙ long_back addr [] fits
one_listed Group Group addr fits other (suc k, within, is) = absurd (omega (arith, within))
one_listed Unique Group addr fits other (k, within, is) = absurd (omega (arith, within))
one_listed Group Unique addr fits other (k, within, is) = absurd (omega (arith, within))

pub none_further : ((octets : List ℕ) (m n : MessageValue) → Spells octets m → Spells octets n → m ≡ n) → (i : Inquiry) (from : Addr) (octets : List ℕ) (machine : MachineValue) (c : ConfirmedValue)
    → from.ip < 2 ^ 32 → ListsItselfAlone from octets → Confirms i from octets machine → IsFurther machine c → ⊥
none_further one i from octets machine c fits (id, name, ttl, kind, cut, spelled) confirms further =
    let same = one octets (found i.id i.name confirms.ttl confirms.entries confirms.cut) (found id name ttl (entry kind from.ip) cut) confirms.spelled spelled in
    let entries : confirms.entries ≡ entry kind from.ip = cc in
    let addrs : machine.addrs ≡ listed i.kind (entry kind from.ip) = ap (λ (m : MachineValue). m.addrs) confirms.machine_is ∙ ap (listed i.kind) entries in
    let asked : machine.asked ≡ i.asked = ap (λ (m : MachineValue). m.asked) confirms.machine_is in
    let own : c.addr ≡ from.ip = one_listed i.kind kind from.ip fits c.addr (subst (λ (xs : List ℕ). Contains xs c.addr) addrs further.listed_is) in
    further.other (own ∙ confirms.asked_is ∙ sym asked)
