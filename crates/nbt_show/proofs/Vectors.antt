-- The words of a vector, one by one.
use Rattle.std.proofs.Common.{◌≡◌, ℕ, List, [], ◌∷◌, ◌≤◌, ◌-◌, take, drop, length, get_or, Option, Some, None, Ok, Err, inl, inr, sym, ap, refl, subst, arith, codes}
use Rattle.std.specs.Prelude.{◌⊎◌, ◌↔◌}
use Rattle.std.proofs.Math.Seq.{take-length}
use denote.Ref.{Bor}
use Rattle.nbt_dgram.specs.declared.fault.DgramFaultKind.{DgramFaultKind}
use Rattle.nbt_packet.specs.declared.fault.FaultKind.{FaultKind}
use Rattle.nbt_show.specs.declared.vector.Expected.{Expected}
use Rattle.nbt_show.specs.declared.vector.Expected.TheVariants.{Name, Dgram}
use Rattle.nbt_show.specs.declared.vector.Service.{Service}
use Rattle.nbt_show.specs.declared.vector.Service.TheVariants as services
use Rattle.nbt_text.specs.Number.{SpellsNumber}
use Rattle.nbt_text.specs.Texts.{texts}
use Rattle.nbt_show.specs.Verdicts.{SpellsExpected, SpellsVector, dgram_refused, dgram_taken, name_refused, name_taken, service_word, vector}
use Rattle.nbt_dgram.specs.Numbers.{fault_word as dgram_fault_word}
use Rattle.nbt_packet.specs.Numbers.{fault_word}

abbrev pub lost : Bor (List ℕ)
lost = record { ref_ptr = (0, 0); now = [] }

pub two_and_more : (words : List (Bor (List ℕ))) → 2 ≤ length words
    → texts words ≡ (get_or words 0 lost).now ∷ (get_or words 1 lost).now ∷ texts (take (length words - 2) (drop 2 words))
two_and_more [] h = absurd (omega arith)
two_and_more (a ∷ []) h = absurd (omega arith)
two_and_more (a ∷ b ∷ ws) h =
    let rest : length (a ∷ b ∷ ws) - 2 ≡ length ws = omega arith in
    let whole : take (length (a ∷ b ∷ ws) - 2) ws ≡ ws = rw (rest, take-length ws) refl in
    sym (ap (λ (x : List (Bor (List ℕ))). a.now ∷ b.now ∷ texts x) whole)

two_services : (service : Service) → service ≡ services.Name → service ≡ services.Dgram → ⊥
two_services service name dgram = cc

-- ---- `ok N`

-- the service whose reader takes this number of octets
abbrev pub Takes : Service → ℕ → Expected → Type 0
Takes service count e = ((service ≡ services.Name) × (e ≡ Name (Ok count))) ⊎ ((service ≡ services.Dgram) × (e ≡ Dgram (Ok count)))

count_in : (service : Service) (words : List (List ℕ)) (a b : List ℕ) (e : Expected) → SpellsExpected service words e → words ≡ a ∷ b ∷ [] → (a ≡ codes "ok") × (k : ℕ) × SpellsNumber b k × Takes service k e
count_in _ _ a b _ (name_taken number k spelled) w = let same : number ≡ b = cc in (cc, k, subst (λ (x : List ℕ). SpellsNumber x k) same spelled, inl (refl, refl))
count_in _ _ a b _ (dgram_taken number k spelled) w = let same : number ≡ b = cc in (cc, k, subst (λ (x : List ℕ). SpellsNumber x k) same spelled, inr (refl, refl))
count_in _ _ a b _ (name_refused number fault spelled) w = absurd cc
count_in _ _ a b _ (dgram_refused number fault spelled) w = absurd cc

pub no_count : (service : Service) (count : List ℕ) (place : Option ℕ) (e : Expected) → ((k : ℕ) → (place ≡ Some k) ↔ SpellsNumber count k) → place ≡ None → ¬ SpellsExpected service (codes "ok" ∷ count ∷ []) e
no_count service count place e number none s =
    let found = count_in service _ _ _ e s refl in
    let bad = (number found.1).1 found.2 in cc

pub name_count : (service : Service) (count : List ℕ) (place : Option ℕ) (k : ℕ) (e : Expected) → service ≡ services.Name → ((k : ℕ) → (place ≡ Some k) ↔ SpellsNumber count k) → place ≡ Some k
    → (◌≡◌ {A = Option Expected} (Some (Name (Ok k))) (Some e)) ↔ SpellsExpected service (codes "ok" ∷ count ∷ []) e
name_count service count place k e name number some = (
  λ same. let is : ◌≡◌ {A = Expected} (Name (Ok k)) e = cc in rw (name, ← is) (name_taken count k ((number k).0 some)),
  λ s.
      let found = count_in service _ _ _ e s refl in
      let other = (number found.1).1 found.2 in
      let same : k ≡ found.1 = cc in elim found.3 [ inl h ↦ rw (h.1, same) refl | inr h ↦ absurd (two_services service name h.0) ],
)

pub dgram_count : (service : Service) (count : List ℕ) (place : Option ℕ) (k : ℕ) (e : Expected) → service ≡ services.Dgram → ((k : ℕ) → (place ≡ Some k) ↔ SpellsNumber count k) → place ≡ Some k
    → (◌≡◌ {A = Option Expected} (Some (Dgram (Ok k))) (Some e)) ↔ SpellsExpected service (codes "ok" ∷ count ∷ []) e
dgram_count service count place k e dgram number some = (
  λ same. let is : ◌≡◌ {A = Expected} (Dgram (Ok k)) e = cc in rw (dgram, ← is) (dgram_taken count k ((number k).0 some)),
  λ s.
      let found = count_in service _ _ _ e s refl in
      let other = (number found.1).1 found.2 in
      let same : k ≡ found.1 = cc in elim found.3 [ inl h ↦ absurd (two_services service h.0 dgram) | inr h ↦ rw (h.1, same) refl ],
)

-- ---- `fault WORD PLACE`

-- the service whose reader finds the fault, whose word is this
abbrev pub Finds : Service → List ℕ → ℕ → Expected → Type 0
Finds service word place e = ((service ≡ services.Name) × (kind : FaultKind) × (word ≡ fault_word kind) × (e ≡ Name (Err (record { kind = kind; place = place }))))
    ⊎ ((service ≡ services.Dgram) × (kind : DgramFaultKind) × (word ≡ dgram_fault_word kind) × (e ≡ Dgram (Err (record { kind = kind; place = place }))))

fault_in : (service : Service) (words : List (List ℕ)) (a b c : List ℕ) (e : Expected) → SpellsExpected service words e → words ≡ a ∷ b ∷ c ∷ []
    → (a ≡ codes "fault") × (place : ℕ) × SpellsNumber c place × Finds service b place e
fault_in _ _ a b c _ (name_taken number k spelled) w = absurd cc
fault_in _ _ a b c _ (dgram_taken number k spelled) w = absurd cc
fault_in _ _ a b c _ (name_refused number fault spelled) w =
    let same : number ≡ c = cc in
    let word : fault_word fault.kind ≡ b = cc in
    (cc, fault.place, subst (λ (x : List ℕ). SpellsNumber x fault.place) same spelled, inl (refl, fault.kind, sym word, refl))
fault_in _ _ a b c _ (dgram_refused number fault spelled) w =
    let same : number ≡ c = cc in
    let word : dgram_fault_word fault.kind ≡ b = cc in
    (cc, fault.place, subst (λ (x : List ℕ). SpellsNumber x fault.place) same spelled, inr (refl, fault.kind, sym word, refl))

pub no_place : (service : Service) (word number : List ℕ) (place : Option ℕ) (e : Expected) → ((k : ℕ) → (place ≡ Some k) ↔ SpellsNumber number k) → place ≡ None
    → ¬ SpellsExpected service (codes "fault" ∷ word ∷ number ∷ []) e
no_place service word number place e numbers none s =
    let found = fault_in service _ _ _ _ e s refl in
    let bad = (numbers found.1).1 found.2 in cc

pub name_fault : (service : Service) (word number : List ℕ) (kinds : Option FaultKind) (places : Option ℕ) (kind : FaultKind) (place : ℕ) (e : Expected) → service ≡ services.Name
    → ((k : FaultKind) → (kinds ≡ Some k) ↔ (word ≡ fault_word k)) → kinds ≡ Some kind → ((k : ℕ) → (places ≡ Some k) ↔ SpellsNumber number k) → places ≡ Some place
    → (◌≡◌ {A = Option Expected} (Some (Name (Err (record { kind = kind; place = place })))) (Some e)) ↔ SpellsExpected service (codes "fault" ∷ word ∷ number ∷ []) e
name_fault service word number kinds places kind place e name words_of some numbers there = (
  λ same.
      let is : ◌≡◌ {A = Expected} (Name (Err (record { kind = kind; place = place }))) e = cc in
      rw (name, (words_of kind).0 some, ← is) (name_refused number (record { kind = kind; place = place }) ((numbers place).0 there)),
  λ s.
      let found = fault_in service _ _ _ _ e s refl in
      let at = (numbers found.1).1 found.2 in
      let same_place : place ≡ found.1 = cc in elim found.3 [
        | inl h ↦ let other = (words_of h.1).1 h.2 in let same_kind : kind ≡ h.1 = cc in rw (h.3, same_kind, same_place) refl
        | inr h ↦ absurd (two_services service name h.0)
      ],
)

pub dgram_fault : (service : Service) (word number : List ℕ) (kinds : Option DgramFaultKind) (places : Option ℕ) (kind : DgramFaultKind) (place : ℕ) (e : Expected) → service ≡ services.Dgram
    → ((k : DgramFaultKind) → (kinds ≡ Some k) ↔ (word ≡ dgram_fault_word k)) → kinds ≡ Some kind → ((k : ℕ) → (places ≡ Some k) ↔ SpellsNumber number k) → places ≡ Some place
    → (◌≡◌ {A = Option Expected} (Some (Dgram (Err (record { kind = kind; place = place })))) (Some e)) ↔ SpellsExpected service (codes "fault" ∷ word ∷ number ∷ []) e
dgram_fault service word number kinds places kind place e dgram words_of some numbers there = (
  λ same.
      let is : ◌≡◌ {A = Expected} (Dgram (Err (record { kind = kind; place = place }))) e = cc in
      rw (dgram, (words_of kind).0 some, ← is) (dgram_refused number (record { kind = kind; place = place }) ((numbers place).0 there)),
  λ s.
      let found = fault_in service _ _ _ _ e s refl in
      let at = (numbers found.1).1 found.2 in
      let same_place : place ≡ found.1 = cc in elim found.3 [
        | inl h ↦ absurd (two_services service h.0 dgram)
        | inr h ↦ let other = (words_of h.1).1 h.2 in let same_kind : kind ≡ h.1 = cc in rw (h.3, same_kind, same_place) refl
      ],
)

pub nothing : (r : Option Expected) (e : Expected) (P : Type 0) → r ≡ None → ¬ P → (r ≡ Some e) ↔ P
nothing r e P none other = (λ same. absurd cc, λ p. absurd (other p))

pub no_vector : (words : List (List ℕ)) (word digits : List ℕ) (rest : List (List ℕ)) (octets : List ℕ) (e : Expected) (service : Option Service) → words ≡ word ∷ digits ∷ rest
    → ((s : Service) → (service ≡ Some s) ↔ (word ≡ service_word s)) → ((s : Service) → service ≡ Some s → ¬ SpellsExpected s rest e) → ¬ SpellsVector words octets e
no_vector _ word b rest _ e asked all names none (vector service digits more octets expected read spelled) =
    let one : word ≡ service_word service = cc in
    let others : more ≡ rest = cc in
    none service ((names service).1 one) (subst (λ (x : List (List ℕ)). SpellsExpected service x e) others spelled)

-- the words after the service's spell nothing for it, and so for any service that the first one names
pub nothing_spelled : (rest : List (List ℕ)) (e : Expected) (asked : Option Service) (service : Service) (found : Option Expected) → asked ≡ Some service → ((found ≡ Some e) ↔ SpellsExpected service rest e) → found ≡ None
    → (s : Service) → asked ≡ Some s → ¬ SpellsExpected s rest e
nothing_spelled rest e asked service found is spells none s other spelled =
    let same : s ≡ service = cc in
    let bad = spells.1 (subst (λ (x : Service). SpellsExpected x rest e) same spelled) in cc
