-- What a datagram that came makes of a server and of what waits.
use Rattle.std.proofs.Common.{◌≡◌, ℕ, Bool, true, false, List, [], ◌∷◌, refl, sym, ap, ◌∙◌, subst, ⊎_elim, Option, None, Some, Err}
use Rattle.std.specs.Prelude.{◌↔◌, ◌+◌, ◌<◌, IsErrOf, IfSome, nat_lt}
use Rattle.std.specs.List.{flat_map}
use Rattle.std.proofs.lemmas.List.{append-nil}
use Rattle.nbt_lease.specs.Lease.{leases_at}
use Rattle.nbt_lease.proofs.Common.{cases_Bool}
use Rattle.nbt_log.specs.declared.entry.Entry.{Entry}
use Rattle.nbt_log.specs.Kinds.{entry_of}
use Rattle.nbt_port.specs.declared.port.Route.{Route}
use Rattle.nbt_port.specs.PortCalls.{Chain}
use Rattle.nbt_port.proofs.Chains.{chain-append}
use Rattle.nbt_store.specs.declared.room.Room.{Room}
use Rattle.nbt_store.specs.declared.room.Room.TheVariants as there_is
use Rattle.nbt_store.specs.Calls.{StoreCall, append_failed}
use Rattle.nbt_store.specs.declared.change.Change.TheVariants.{Reached}
use Rattle.nbt_server.specs.Serving.{ServerValue}
use Rattle.nbt_server.specs.Outcomes.{has_reply}
use Rattle.nbt_server.specs.Calls.{ServerHandles, ServerForgets}
use Rattle.nbt_server.specs.declared.fault.ServerFault.{ServerFault}
use Rattle.nbt_server.specs.declared.fault.ServerFault.TheVariants as faults
use Rattle.nbt_server.specs.declared.outcome.Outcome.{Outcome}
use Rattle.nbt_store.specs.declared.change.Change.{Change}
use Rattle.nbt_serve.specs.Serving.{is_empty, is_taken, is_lost, Turns, passes, takes, goes_back, has_no_memory, IsLogged}
use Rattle.nbt_serve.specs.Changing.{changed_name, changes_leases, name_of, IsChange}
use Rattle.nbt_serve.specs.Sharing.{ShareValue, Shares, SharesBy, has_room, has_no_room}
use Rattle.nbt_serve.specs.Waiting.{WaitingValue, with_line, dropped, lay_down, laid_down}
use Rattle.nbt_serve.specs.Inner.Passing.{goes_to, name_in_any, query_in, reply_to, is_any}
use Rattle.nbt_serve.specs.Inner.Sharing.{Admits, AdmitsBy, is_let_in, is_kept_out, is_free, is_counted, is_barred, IsHandled}
use Rattle.nbt_serve.specs.declared.share.Admission.{Admission}
use Rattle.nbt_serve.specs.declared.share.Admission.TheVariants as to
use Rattle.nbt_serve.specs.Inner.Taking.{HasTaken, FailsToTake, in_appending}
use Rattle.nbt_serve.specs.Turning.{Took, Takes, about_of, changes_in, appends_of, reach, reached, with_lines, with_any}
use Rattle.nbt_serve.proofs.Named.{told_name, told_query, reply_is}
use Rattle.nbt_serve.proofs.Told.{still_kept}

module _ (old new : ServerValue) (now : ℕ) (from : Route) (octets : List ℕ) (outcome : Outcome) (change : Option Change) (out : List ℕ) (h : ServerHandles old now from.peer.ip octets outcome out new)
    (changed : IsChange outcome new change) where
  abbrev pub took_one : Took
  took_one = record { turn = is_taken now from octets h.reply; change = change; barred = None }

  abbrev pub takes_one : Takes old took_one new
  takes_one = record {
    server = takes now from octets h.reply new h.takes;
    keeps = changed.keeps old now from.peer.ip octets out h;
    time = changed.time;
    named = named_so change changed.named;
    stands = changed.stands old now from.peer.ip octets out h;
    nothing_came = tt;
  }
    where
      named_so : (c : Option Change) → IfSome c (λ d. changed_name d ≡ name_of outcome) → IfSome c (λ d. changed_name d ≡ about_of h.reply)
      named_so None is = tt
      named_so (Some d) is = is ∙ sym (told_name old now from.peer.ip octets h.reply (leases_at now new.table.rows) outcome h.takes.serves h.done)

-- a server refuses a datagram with one of two faults, and what is kept of it stays
lost_so : (old new : ServerValue) (now : ℕ) (from : Route) (octets : List ℕ) (fault : ServerFault) → IsErrOf {T = Outcome} (Err fault) faults.ClockBack ↔ (now < old.last)
    → (IsErrOf {T = Outcome} (Err fault) faults.ClockBack → new ≡ old) → (IsErrOf {T = Outcome} (Err fault) faults.OutOfMemory → ServerForgets old now from.peer.ip octets new) → Turns old (is_lost now from octets) new
lost_so old new now from octets faults.ClockBack back unchanged memory = subst (λ x. Turns old (is_lost now from octets) x) (sym (unchanged refl)) (goes_back now from octets (back.0 refl))
lost_so old new now from octets faults.OutOfMemory back unchanged memory = has_no_memory now from octets new (memory refl)

logged : {old new : ServerValue} {now : ℕ} {from : Route} {octets : List ℕ} (lost : Turns old (is_lost now from octets) new) → IsLogged lost None
logged (goes_back now from octets early) = refl
logged (has_no_memory now from octets new forgets) = refl

pub takes_none : (old new : ServerValue) (now : ℕ) (from : Route) (octets : List ℕ) (fault : ServerFault) → IsErrOf {T = Outcome} (Err fault) faults.ClockBack ↔ (now < old.last)
    → (IsErrOf {T = Outcome} (Err fault) faults.ClockBack → new ≡ old) → (IsErrOf {T = Outcome} (Err fault) faults.OutOfMemory → ServerForgets old now from.peer.ip octets new)
    → (t : Takes old (record { turn = is_lost now from octets; change = None; barred = None }) new) × IsLogged t.server None
takes_none old new now from octets fault back unchanged memory =
    let lost = lost_so old new now from octets fault back unchanged memory in
    (record { server = lost; keeps = still_kept fault old new now from.peer.ip octets (λ e. unchanged (ap Err e)) (λ e. memory (ap Err e)); time = tt; named = tt; stands = λ kept k. tt; nothing_came = tt }, logged lost)

-- the calls of the store for a time, and then for a change, and the times of both
module _ (room : Room) {S C : Type 0} (keeps : S → StoreCall → S → Type 0) (tells : C → ℕ → C → Type 0) (s t u : S) (c d : C) (old new : ServerValue) (share counts : ShareValue) (now : ℕ) (from : Route) (octets : List ℕ) (waiting mid : WaitingValue) (synced : Bool)
    (told : tells c now d) (synced_is : synced ≡ nat_lt (waiting.durable + reach) now) (reached_did : Chain keeps s (flat_map lay_down (reached waiting.durable (now ∷ []))) t) (mid_is : mid ≡ with_lines (reached waiting.durable (now ∷ [])) waiting) where
  any_is : synced ≡ is_any (reached waiting.durable (now ∷ []))
  any_is =
      ⊎_elim (λ (past : nat_lt (waiting.durable + reach) now ≡ true). synced_is ∙ rw past refl) (λ (near : nat_lt (waiting.durable + reach) now ≡ false). synced_is ∙ rw near refl) (cases_Bool (nat_lt (waiting.durable + reach) now))

  pub taken_so : (outcome : Outcome) (change : Option Change) (out : List ℕ) (after : WaitingValue) (entry : Option Entry) → ServerHandles old now from.peer.ip octets outcome out new → IsChange outcome new change → entry ≡ Some (entry_of from.peer octets outcome)
      → SharesBy room now from.peer.ip octets share false (changes_leases outcome) counts → Chain keeps t (appends_of change) u → after ≡ with_any change mid → HasTaken keeps tells s c old share waiting (Some from) octets entry out synced u d new counts after
  taken_so outcome change out after entry h changed is shared kept waits = record {
    took = took_one old new now from octets outcome change out h changed;
    takes = takes_one old new now from octets outcome change out h changed;
    logged = (outcome, h.done, is);
    changed = changed.some old now from.peer.ip octets out h ∙ ap changes_in (sym is);
    room = room;
    shared = subst (λ (b : Bool). SharesBy room now from.peer.ip octets share false b counts) (sym (changed.some old now from.peer.ip octets out h)) shared;
    received = refl;
    idle = refl;
    asked = told_query old now from.peer.ip octets h.reply (leases_at now new.table.rows) outcome h.takes.serves h.done ∙ ap query_in (sym is);
    reply =
        reply_is now from octets out h.reply (has_reply outcome) outcome h.has_reply_is (told_name old now from.peer.ip octets h.reply (leases_at now new.table.rows) outcome h.takes.serves h.done) h.written
        ∙ (ap (λ (e : Option Entry). reply_to now (name_in_any e) (goes_to (Some from) e) out) (sym is) ∙ ap (λ (n : ℕ). reply_to n (name_in_any entry) (goes_to (Some from) entry) out) (sym h.takes.last));
    synced_is = any_is;
    stored = chain-append keeps s t u (flat_map lay_down (reached waiting.durable (now ∷ []))) (appends_of change) reached_did kept;
    clock_told = (d, told, refl);
    waiting_is = waits ∙ ap (with_any change) mid_is;
  }

  pub not_kept : (outcome : Outcome) (change : Change) (out : List ℕ) (after : WaitingValue) → ServerHandles old now from.peer.ip octets outcome out new → IsChange outcome new (Some change) → keeps t (append_failed change) u → after ≡ dropped (with_line change mid)
      → FailsToTake keeps tells s c old share waiting from octets u d new after
  not_kept outcome change out after h changed did is =
      in_appending (is_taken now from octets h.reply) change (takes_one old new now from octets outcome (Some change) out h changed) refl
      (chain-append keeps s t u (flat_map lay_down (reached waiting.durable (now ∷ []))) (append_failed change ∷ []) reached_did (u, did, refl)) (d, told, refl) (is ∙ ap (λ (w : WaitingValue). dropped (with_line change w)) mid_is)

  pub lost_one : (fault : ServerFault) (out : List ℕ) → IsErrOf {T = Outcome} (Err fault) faults.ClockBack ↔ (now < old.last) → (IsErrOf {T = Outcome} (Err fault) faults.ClockBack → new ≡ old)
      → (IsErrOf {T = Outcome} (Err fault) faults.OutOfMemory → ServerForgets old now from.peer.ip octets new) → SharesBy room now from.peer.ip octets share false false counts
      → HasTaken keeps tells s c old share waiting (Some from) octets None out synced t d new counts mid
  lost_one fault out back unchanged memory shared =
      let l = takes_none old new now from octets fault back unchanged memory in
      record {
        took = record { turn = is_lost now from octets; change = None; barred = None };
        takes = l.0;
        logged = l.1;
        changed = refl;
        room = room;
        shared = shared;
        received = refl;
        idle = refl;
        asked = refl;
        reply = refl;
        synced_is = any_is;
        stored = subst (λ (cs : List StoreCall). Chain keeps s cs t) (sym (append-nil (flat_map lay_down (reached waiting.durable (now ∷ []))))) reached_did;
        clock_told = (d, told, refl);
        waiting_is = mid_is;
      }

pub idle_one : {S C : Type 0} (keeps : S → StoreCall → S → Type 0) (tells : C → ℕ → C → Type 0) (s : S) (c : C) (old : ServerValue) (share : ShareValue) (waiting : WaitingValue) (octets out : List ℕ)
    → HasTaken keeps tells s c old share waiting None octets None out false s c old share waiting
idle_one keeps tells s c old share waiting octets out = record {
  took = record { turn = is_empty; change = None; barred = None };
  takes = record { server = passes; keeps = λ kept k. k; time = tt; named = tt; stands = λ kept k. tt; nothing_came = tt };
  logged = refl;
  changed = refl;
  room = there_is.Ample;
  shared = refl;
  received = refl;
  idle = refl;
  asked = refl;
  reply = refl;
  synced_is = refl;
  stored = refl;
  clock_told = refl;
  waiting_is = refl;
}

-- a datagram is barred
pub barred_one : (room : Room) {S C : Type 0} (keeps : S → StoreCall → S → Type 0) (tells : C → ℕ → C → Type 0) (s : S) (c d : C) (old : ServerValue) (share counts : ShareValue) (waiting : WaitingValue) (now : ℕ) (from : Route) (octets out : List ℕ) → tells c now d
    → SharesBy room now from.peer.ip octets share true false counts → HasTaken keeps tells s c old share waiting (Some from) octets None out false s d old counts waiting
barred_one room keeps tells s c d old share counts waiting now from octets out told shared = record {
  took = record { turn = is_empty; change = None; barred = Some (record { now = now; from = from; octets = octets }) };
  takes = record { server = passes; keeps = λ kept k. k; time = tt; named = tt; stands = λ kept k. tt; nothing_came = (refl, refl) };
  logged = refl;
  changed = refl;
  room = room;
  shared = shared;
  received = refl;
  idle = refl;
  asked = refl;
  reply = refl;
  synced_is = refl;
  stored = refl;
  clock_told = (d, told, refl);
  waiting_is = refl;
}

-- ---- a time becomes durable before a datagram is handled, or not

module _ {S : Type 0} (keeps : S → StoreCall → S → Type 0) (s t : S) (old new : WaitingValue) (now : ℕ) where
  pub not_reached : nat_lt (old.durable + reach) now ≡ false → (false ≡ nat_lt (old.durable + reach) now) × Chain keeps s (flat_map lay_down (reached old.durable (now ∷ []))) s × (old ≡ with_lines (reached old.durable (now ∷ [])) old)
  not_reached near = (sym near, rw near refl, rw near refl)

  pub has_reached : nat_lt (old.durable + reach) now ≡ true → Chain keeps s (lay_down (Reached now)) t → new ≡ laid_down (Reached now) old
      → (true ≡ nat_lt (old.durable + reach) now) × Chain keeps s (flat_map lay_down (reached old.durable (now ∷ []))) t × (new ≡ with_lines (reached old.durable (now ∷ [])) old)
  has_reached past did is = (sym past, rw past did, rw past is)

-- ---- what a datagram makes of the counts

-- it was barred
barred_one_so : (now client : ℕ) (octets : List ℕ) (old new : ShareValue) (admission : Admission) → admission ≡ to.Barred → Admits now client octets old admission new → Shares now client octets old true false new
barred_one_so now client octets old new _ is (is_free free) = absurd cc
barred_one_so now client octets old new _ is (is_counted counts asks room counted) = absurd cc
barred_one_so now client octets old new _ is (is_barred counts shares) = shares

pub barred_so : (room : Room) (now client : ℕ) (octets : List ℕ) (old new : ShareValue) (admission : Admission) → admission ≡ to.Barred → AdmitsBy room now client octets old admission new → SharesBy room now client octets old true false new
barred_so room now client octets old new admission is (is_let_in _ counts let_in admits) = has_room true false new let_in (barred_one_so now client octets old new admission is admits)
barred_so room now client octets old _ _ is (is_kept_out out) = has_no_room out

-- it wasn't
pub handled_so : (admission : Admission) → ¬ (admission ≡ to.Barred) → IsHandled admission
handled_so to.Free not = tt
handled_so to.Counted not = tt
handled_so to.Barred not = absurd (not refl)
