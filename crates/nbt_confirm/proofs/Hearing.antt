-- What octets make of the inquiries under way, and which inquiry begins next.
use Rattle.std.proofs.Common.{◌≡◌, ℕ, ◌+◌, ◌-◌, ◌<◌, true, false, Bool, List, [], ◌∷◌, ◌++◌, length, Option, Some, None, refl, sym, ap, ◌∙◌, subst}
use Rattle.std.specs.List.{find}
use Rattle.std.specs.Option.{option_map}
use Rattle.std.proofs.lemmas.Bool.{lt-leb}
use Rattle.nbt_name.specs.declared.addr.Addr.{Addr}
use Rattle.nbt_confirm.specs.declared.inquiry.Inquiry.{Inquiry}
use Rattle.nbt_confirm.specs.declared.inquiry.Way.{Way}
use Rattle.nbt_confirm.specs.declared.request.Request.{Request}
use Rattle.nbt_confirm.specs.declared.waits.Pending.{Pending}
use Rattle.nbt_confirm.specs.Firsts.{without_first}
use Rattle.nbt_confirm.specs.Inquiries.{MachineValue, ResponseValue, IsResponse, inquiry_form, machine_by, way_of}
use Rattle.nbt_confirm.specs.Waiting.{Hears, answered, unasked, no_response, is_answered, inquiry_in, inquiry_of, begun, gap, next_begun, next_to_ask, queries, Sends, waits_most, WaitsValue, with_begun}

-- where nothing is found, nothing goes
unfound_leaves : {X : Type 0} (test : X → Bool) (xs : List X) → find test xs ≡ None → without_first test xs ≡ xs
unfound_leaves test [] none = refl
unfound_leaves {X} test (x ∷ xs) none = elim (test x) as (λ b. test x ≡ b → without_first test (x ∷ xs) ≡ x ∷ xs) [
  | true ↦ λ passes. absurd (let e : Some x ≡ None = rw passes at none in cc)
  | false ↦ λ fails. rw fails (ap (λ (ys : List X). x ∷ ys) (unfound_leaves test xs (rw fails at none)))
] refl

pub hears_nothing : (from : Addr) (octets : List ℕ) (old : List Pending) (result : Option MachineValue) → ((r : ResponseValue) → ¬ IsResponse from octets r) → result ≡ None → Hears from octets old result old
hears_nothing from octets old result none is = rw is (no_response none)

pub hears_unasked : (from : Addr) (octets : List ℕ) (old items new : List Pending) (r : ResponseValue) (result : Option MachineValue) → IsResponse from octets r → items ≡ old
    → None ≡ find (is_answered r) items → new ≡ without_first (is_answered r) items → result ≡ None → Hears from octets old result new
hears_unasked from octets old items new r result response same none left is =
    let there = sym none in
    let stays : new ≡ old = left ∙ (unfound_leaves (is_answered r) items there ∙ same) in
    rw (is, stays) (unasked r response (subst (λ (ps : List Pending). find (is_answered r) ps ≡ None) same there))

pub hears_answered : (from : Addr) (octets : List ℕ) (old items new : List Pending) (r : ResponseValue) (p : Pending) (machine : MachineValue) → IsResponse from octets r → items ≡ old
    → Some p ≡ find (is_answered r) items → new ≡ without_first (is_answered r) items → machine ≡ machine_by p.inquiry r → Hears from octets old (Some machine) new
hears_answered from octets old items new r p machine response same found left is =
    let there = subst (λ (ps : List Pending). find (is_answered r) ps ≡ Some p) same (sym found) in
    let rest : new ≡ without_first (is_answered r) old = left ∙ ap (without_first (is_answered r)) same in
    rw (is, rest) (answered r p response there)

-- an inquiry under way, by the request that draws it
pub begun_by : (r : Option Request) (now id : ℕ) (i : Inquiry) → Some i ≡ option_map (inquiry_of id) r → Some (record { inquiry = i; left = queries - 1; due = now + gap }) ≡ option_map (begun now id) r
begun_by None now id i is = absurd cc
begun_by (Some r) now id i is =
    let same : i ≡ inquiry_of id r = cc in
    ap (λ (j : Inquiry). Some (record { inquiry = j; left = queries - 1; due = now + gap })) same

pub none_begun : (r : Option Request) (now id : ℕ) → None ≡ option_map (inquiry_of id) r → None ≡ option_map (begun now id) r
none_begun None now id is = refl
none_begun (Some r) now id is = absurd cc

-- there is room for it
pub next_is : (now id : ℕ) (waits : WaitsValue) (r : Option Pending) → length waits.pending < waits_most → r ≡ option_map (begun now id) (next_to_ask waits) → r ≡ next_begun now id waits
next_is now id waits r few is = rw (lt-leb waits_most (length waits.pending) few) is

-- ---- what is sent, and what is under way then

pub sends_none : (found : Option Pending) (to : Option Way) (octets : List ℕ) → found ≡ None → to ≡ None → octets ≡ [] → Sends (inquiry_in found) to octets
sends_none found to octets none nowhere empty = rw none (record { to_is = nowhere; octets_are = empty })

pub sends_one : (found : Option Pending) (p : Pending) (way : Way) (octets : List ℕ) → Some p ≡ found → way ≡ way_of p.inquiry → octets ≡ inquiry_form p.inquiry → Sends (inquiry_in found) (Some way) octets
sends_one found p way octets is goes form = subst (λ (f : Option Pending). Sends (inquiry_in f) (Some way) octets) is (record { to_is = ap Some goes; octets_are = form })

pub begins_none : (waits : WaitsValue) (found : Option Pending) → found ≡ None → waits ≡ record waits { pending = with_begun found waits.pending }
begins_none waits found none = rw none refl

pub begins_one : (requests : List Request) (old new : List Pending) (waits : WaitsValue) (found : Option Pending) (p : Pending) → ◌≡◌ {A = WaitsValue} (record { requests = requests; pending = old }) waits
    → new ≡ old ++ p ∷ [] → Some p ≡ found → ◌≡◌ {A = WaitsValue} (record { requests = requests; pending = new }) (record waits { pending = with_begun found waits.pending })
begins_one requests old new waits found p whole pushed is =
    let after : Option Pending → WaitsValue → Type 0 = λ f w. ◌≡◌ {A = WaitsValue} (record { requests = requests; pending = new }) (record w { pending = with_begun f w.pending }) in
    subst (λ (f : Option Pending). after f waits) is (subst (after (Some p)) whole (rw pushed refl))
