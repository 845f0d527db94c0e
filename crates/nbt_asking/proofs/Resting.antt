-- Where nothing can be done nothing is done.
use Rattle.std.proofs.Common.{◌≡◌, ℕ, Bool, true, false, length, List, Option, Some, None, refl, sym, ap, ◌∙◌, subst}
use Rattle.std.specs.Prelude.{◌&&◌, not, nat_le, if◌then◌else◌}
use Rattle.std.specs.List.{find}
use Rattle.std.specs.Option.{option_map}
use Rattle.nbt_lease.specs.Lease.{TableValue}
use Rattle.nbt_log.specs.declared.entry.Entry.{Entry}
use Rattle.nbt_port.specs.PortCalls.{PortCall}
use Rattle.nbt_confirm.specs.declared.further.Further.{Further}
use Rattle.nbt_confirm.specs.declared.request.Request.{Request}
use Rattle.nbt_confirm.specs.declared.waits.Pending.{Pending}
use Rattle.nbt_confirm.specs.Further.{kept_at}
use Rattle.nbt_confirm.specs.Waiting.{WaitsValue, begun, is_asking, is_past, is_to_repeat, is_unanswered, is_under_way, next_begun, next_to_ask, waits_most}
use Rattle.nbt_waits.specs.Lapsing.{is_over}
use Rattle.nbt_asking.specs.Attending.{AttendsAt, Begins, BeginsNone, LooksAside, at_claim, at_response, at_time, no_id, no_room, nobody, nothing_there, swept}
use Rattle.nbt_asking.specs.Laws.{HasNobody}
use Rattle.nbt_asking.specs.Port.{AskingPortValue}
use Rattle.nbt_asking.specs.Steps.{AsMany, Times, all, enough, none, one_more}
use Rattle.nbt_asking.proofs.Doing.{not_both}

module _ {S : Type 0} (step ends : S → S → Type 0) (old : S) (never : (next : S) → ¬ step old next) where
  times_never : (n : ℕ) (new : S) → Times step old n new → new ≡ old
  times_never n new none = refl
  times_never n new (one_more before mid _ times one) = absurd (never new (subst (λ (s : S). step s new) (times_never before mid times) one))

  many_never : (most : ℕ) → ((new : S) → ends old new → new ≡ old) → (new : S) → AsMany most step ends old new → new ≡ old
  many_never most ended new (all n last _ few times end) = ended new (subst (λ (s : S). ends s new) (times_never n last times) end)
  many_never most ended new (enough _ times) = times_never most new times

module _ {P I : Type 0} (does : P → PortCall → P → Type 0) (draws : I → Option ℕ → I → Type 0) (table : TableValue) (now : ℕ) (s : AskingPortValue P I) (is : HasNobody s.desk) where
  looks_never : (new : AskingPortValue P I) → LooksAside does table now s new → new ≡ s
  looks_never new (nothing_there empty) = refl
  looks_never new (at_claim c octets _ was request looks) = absurd (is.aside (rw was tt))
  looks_never new (at_response c octets _ was response looks) = absurd (is.aside (rw was tt))

  begins_never : (new : AskingPortValue P I) → BeginsNone draws s new → new ≡ s
  begins_never new (nobody nothing) = refl
  begins_never new (no_id r ids asks drew) = absurd (not_both (next_to_ask s.desk.asking.waits) r (ap (find (λ r. is_asking r.awaits && not (is_under_way s.desk.asking.waits.pending r.name))) is.requests) asks)
  begins_never new (no_room r id ids asks drew full) = absurd (not_both (next_to_ask s.desk.asking.waits) r (ap (find (λ r. is_asking r.awaits && not (is_under_way s.desk.asking.waits.pending r.name))) is.requests) asks)

  -- each of these things, from where nobody waits
  rests_from : (step ends : AskingPortValue P I → AskingPortValue P I → Type 0) (most : ℕ) → ((next : AskingPortValue P I) → ¬ step s next) → ((new : AskingPortValue P I) → ends s new → new ≡ s) → (from new : AskingPortValue P I) → from ≡ s → AsMany most step ends from new → new ≡ s
  rests_from step ends most never ended from new same did = many_never step ends s never most ended new (subst (λ (x : AskingPortValue P I). AsMany most step ends x new) same did)

-- nobody is to be asked, so that no inquiry begins
unbegun : {X Y : Type 0} (full : Bool) (asks : Option X) (begins : X → Y) (y : Y) → asks ≡ None → (if full then None else option_map begins asks) ≡ Some y → ⊥
unbegun {X} {Y} true asks begins y nobody_asks some = let e : ◌≡◌ {A = Option Y} None (Some y) = some in absurd cc
unbegun false asks begins y nobody_asks some = not_both (option_map begins asks) y (ap (option_map begins) nobody_asks) some

begun_never : (now : ℕ) (waits : WaitsValue) (id : ℕ) (p : Pending) → next_to_ask waits ≡ None → next_begun now id waits ≡ Some p → ⊥
begun_never now waits id p nobody_asks some = unbegun (nat_le waits_most (length waits.pending)) (next_to_ask waits) (begun now id) p nobody_asks some

pub rests : {P I : Type 0} (does : P → PortCall → P → Type 0) (draws : I → Option ℕ → I → Type 0) (table : TableValue) (now : ℕ) (octets : List ℕ) (logged : Option Entry) (old new : AskingPortValue P I) → HasNobody old.desk
    → AttendsAt does draws table now octets None logged old new → new ≡ at_time now old
rests {P} {I} does draws table now octets logged old new is did =
    let s : AskingPortValue P I = at_time now old in
    let so : HasNobody s.desk = record { aside = is.aside; requests = is.requests; pending = is.pending; further = is.further } in
    let requests : (test : Request → Bool) → find test s.desk.asking.waits.requests ≡ None = λ test. ap (find test) is.requests in
    let pending : (test : Pending → Bool) → find test s.desk.asking.waits.pending ≡ None = λ test. ap (find test) is.pending in
    let further : (test : Further → Bool) → find test s.desk.asking.further ≡ None = λ test. ap (find test) is.further in
    let unswept : swept now s ≡ s = ap (λ (rows : List Further). record s { desk = record s.desk { asking = record s.desk.asking { further = rows } } }) (ap (kept_at now) is.further ∙ sym is.further) in
    let looked = looks_never does draws table now s so did.looked did.looks_aside in
    let turned : did.turned ≡ s = did.looks_at_turn.1 ∙ looked in
    let given_up : did.given_up ≡ s = rests_from does draws table now s so _ _ _ (λ next given. not_both (find (is_unanswered now) s.desk.asking.waits.pending) given.p (pending (is_unanswered now)) given.is_first) (λ next end. end.0) did.turned did.given_up turned did.gives_up in
    let woken : did.woken ≡ s = rests_from does draws table now s so _ _ _ (λ next d. not_both (find (λ r. is_past now r.awaits) s.desk.asking.waits.requests) d.did.request (requests (λ r. is_past now r.awaits)) d.did.is_first) (λ next end. end.0)
    (swept now did.given_up) did.woken (ap (swept now) given_up ∙ unswept) did.wakes in
    let followed : did.followed ≡ s = rests_from does draws table now s so _ _ _ (λ next d. not_both (find (is_over now) s.desk.asking.further) d.did.row (further (is_over now)) d.did.is_first) (λ next end. end.0) did.woken did.followed woken did.follows in
    let repeated : did.repeated ≡ s = rests_from does draws table now s so _ _ _ (λ next d. not_both (find (is_to_repeat now) s.desk.asking.waits.pending) d.did.p (pending (is_to_repeat now)) d.did.is_first) (λ next end. end.0) did.followed did.repeated followed did.repeats in
    rests_from does draws table now s so (Begins does draws now) (BeginsNone draws) _ (λ next one. begun_never now s.desk.asking.waits one.id one.began.did.p (requests (λ r. is_asking r.awaits && not (is_under_way s.desk.asking.waits.pending r.name))) one.began.did.is_next)
    (begins_never does draws table now s so) did.repeated new repeated did.begins
