-- What is found among the inquiries, and what leaves of what is done where a lease ends.
use Rattle.std.proofs.Common.{◌≡◌, ℕ, Bool, true, false, if◌then◌else◌, List, [], ◌∷◌, Option, Some, None, refl, sym, ap, subst, ◌∙◌}
use Rattle.std.specs.Prelude.{is_some}
use Rattle.std.specs.List.{find}
use Rattle.std.specs.Option.{option_map}
use Rattle.nbt_name.specs.Wire.{NameValue}
use Rattle.nbt_packet.specs.declared.message.Registration.{Registration}
use Rattle.nbt_lease.specs.declared.lease.Lease.{Lease}
use Rattle.nbt_port.specs.PortCalls.{PortCall}
use Rattle.nbt_confirm.specs.declared.further.Further.{Further}
use Rattle.nbt_confirm.specs.declared.inquiry.Inquiry.{Inquiry}
use Rattle.nbt_confirm.specs.declared.inquiry.Way.{Way}
use Rattle.nbt_confirm.specs.declared.waits.Pending.{Pending}
use Rattle.nbt_confirm.specs.Firsts.{with_first, without_first}
use Rattle.nbt_confirm.specs.Further.{is_next}
use Rattle.nbt_confirm.specs.Inquiries.{inquiry_form, way_of}
use Rattle.nbt_confirm.specs.Waiting.{Sends, begun, inquiry_in}
use Rattle.nbt_waits.specs.declared.asking.Asking.{Asking}
use Rattle.nbt_waits.specs.Asking.{is_of}
use Rattle.nbt_waits.specs.Doing.{quietly}
use Rattle.nbt_waits.specs.Lapsing.{follows_by, passes_to}
use Rattle.nbt_asking.specs.Attending.{TriesToSend, query}

-- nothing is two things
pub not_both : {X : Type 0} (o : Option X) (x : X) → o ≡ None → o ≡ Some x → ⊥
not_both o x none some = let e : Some x ≡ None = sym some ∙ none in absurd cc

-- where nothing is found, nothing goes or changes
pub unfound_leaves : {X : Type 0} (test : X → Bool) (xs : List X) → find test xs ≡ None → without_first test xs ≡ xs
unfound_leaves test [] none = refl
unfound_leaves {X} test (x ∷ xs) none = elim (test x) as (λ b. test x ≡ b → without_first test (x ∷ xs) ≡ x ∷ xs) [
  | true ↦ λ passes. absurd (let e : Some x ≡ None = rw passes at none in cc)
  | false ↦ λ fails. rw fails (ap (λ (ys : List X). x ∷ ys) (unfound_leaves test xs (rw fails at none)))
] refl

pub unfound_stays : {X : Type 0} (test : X → Bool) (change : X → X) (xs : List X) → find test xs ≡ None → with_first test change xs ≡ xs
unfound_stays test change [] none = refl
unfound_stays {X} test change (x ∷ xs) none = elim (test x) as (λ b. test x ≡ b → with_first test change (x ∷ xs) ≡ x ∷ xs) [
  | true ↦ λ passes. absurd (let e : Some x ≡ None = rw passes at none in cc)
  | false ↦ λ fails. rw fails (ap (λ (ys : List X). x ∷ ys) (unfound_stays test change xs (rw fails at none)))
] refl

-- ---- the inquiry that asks

-- a query that leaves is an inquiry's
pub record Asks (found : Option Pending) (way : Way) (octets : List ℕ) : Type 0 where
  pub p : Pending
  pub found_is : found ≡ Some p
  pub way_is : way ≡ way_of p.inquiry
  pub octets_are : octets ≡ inquiry_form p.inquiry

pub asks_one : (found : Option Pending) (to : Option Way) (way : Way) (octets : List ℕ) → Sends (inquiry_in found) to octets → to ≡ Some way → Asks found way octets
asks_one None to way octets sends is = absurd (not_both to way sends.to_is is)
asks_one (Some p) to way octets sends is =
    let same : ◌≡◌ {A = Option Way} (Some way) (Some (way_of p.inquiry)) = sym is ∙ sends.to_is in
    record { p = p; found_is = refl; way_is = cc; octets_are = sends.octets_are }

-- what was sent so is that inquiry's query
pub asked : {P : Type 0} (does : P → PortCall → P → Type 0) (old new : P) (found : Option Pending) (way : Way) (octets out : List ℕ) → (a : Asks found way octets) → out ≡ octets
    → TriesToSend does old (query way out) new → TriesToSend does old (query (way_of a.p.inquiry) (inquiry_form a.p.inquiry)) new
asked does old new found way octets out a same sent =
    subst (λ (w : Way). TriesToSend does old (query w (inquiry_form a.p.inquiry)) new) a.way_is (subst (λ (xs : List ℕ). TriesToSend does old (query way xs) new) (same ∙ a.octets_are) sent)

pub asks_none : (found : Option Pending) (to : Option Way) (octets : List ℕ) → Sends (inquiry_in found) to octets → to ≡ None → found ≡ None
asks_none None to octets sends none = refl
asks_none (Some p) to octets sends none = absurd (not_both to (way_of p.inquiry) none sends.to_is)

pub silent_none : (found : Option Pending) → inquiry_in found ≡ None → found ≡ None
silent_none None none = refl
silent_none (Some p) none = absurd (let e : Some p.inquiry ≡ None = none in cc)

-- the inquiry that nobody answered is one of these
pub record IsSilent (found : Option Pending) (i : Inquiry) : Type 0 where
  pub p : Pending
  pub found_is : found ≡ Some p
  pub inquiry_is : i ≡ p.inquiry

pub silent_one : (found : Option Pending) (i : Inquiry) → inquiry_in found ≡ Some i → IsSilent found i
silent_one None i is = absurd (let e : ◌≡◌ {A = Option Inquiry} None (Some i) = is in cc)
silent_one (Some p) i is = record { p = p; found_is = refl; inquiry_is = (let e : ◌≡◌ {A = Option Inquiry} (Some p.inquiry) (Some i) = is in cc) }

-- there is somebody to ask, and no inquiry begins: so many are under way
pub too_many : {X Y : Type 0} (full : Bool) (asks : Option X) (begun : X → Y) → is_some asks ≡ true → (if full then None else option_map begun asks) ≡ None → full ≡ true
too_many true asks begun some none = refl
too_many false None begun some none = absurd cc
too_many false (Some x) begun some none = absurd (let e : Some (begun x) ≡ None = none in cc)

pub somebody_asks : {X : Type 0} (asks : Option X) → is_some asks ≡ true → (x : X) × (asks ≡ Some x)
somebody_asks None some = absurd cc
somebody_asks (Some x) some = (x, refl)

pub nobody_asks : {X : Type 0} (asks : Option X) → is_some asks ≡ false → asks ≡ None
nobody_asks None none = refl
nobody_asks (Some x) none = absurd cc

-- ---- nothing leaves where a lease ends

pub passes_quietly : (row : Option Further) (now : ℕ) (name : NameValue) (old : Asking) → (passes_to row now name old).sends ≡ []
passes_quietly None now name old = refl
passes_quietly (Some row) now name old = refl

quietly_either : (is : Bool) (one other : Asking) → (if is then quietly one else quietly other).sends ≡ []
quietly_either true one other = refl
quietly_either false one other = refl

pub follows_quietly : (lease : Option Lease) (now : ℕ) (row : Further) (old : Asking) → (follows_by lease now row old).sends ≡ []
follows_quietly None now row old = passes_quietly (find (is_next now row.name row.holder) old.further) now row.name old
follows_quietly (Some lease) now row old = quietly_either (is_of row.holder lease) _ _

pub one_some : (a b : Registration) → ◌≡◌ {A = Option Registration} (Some a) (Some b) → a ≡ b
one_some a b is = cc
