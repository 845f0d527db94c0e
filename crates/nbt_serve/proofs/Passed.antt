-- One turn, by what its parts returned.
use Rattle.std.proofs.Common.{◌≡◌, ℕ, ◌+◌, Bool, true, false, not, ◌||◌, ◌&&◌, List, [], ◌∷◌, ◌++◌, length, map, refl, sym, ap, subst, ◌∙◌, Option, None, Some, Result, Ok, Err, ◌<◌, ◌≤◌, arith}
use Rattle.std.specs.Prelude.{is_some, nat_eq, nat_le, OnOk, OnErr}
use Rattle.std.specs.List.{flat_map}
use Rattle.std.specs.Option.{option_to_list}
use Rattle.std.proofs.lemmas.Bool.{false≢true}
use Rattle.nbt_port.proofs.Chains.{chain-append}
use Rattle.std.proofs.lemmas.Bool.{leb-false}
use Rattle.std.proofs.lemmas.List.{append_assoc, append-nil, length-append}
use Rattle.nbt_name.specs.Wire.{NameValue}
use Rattle.nbt_port.specs.declared.port.Route.{Route}
use Rattle.nbt_port.specs.PortCalls.{PortCall, came, receive_failed, send_failed, Chain}
use Rattle.nbt_server.specs.Serving.{ServerValue}
use Rattle.nbt_store.specs.declared.change.Change.{Change}
use Rattle.nbt_store.specs.declared.store.Broken.{Broken}
use Rattle.nbt_store.specs.Calls.{StoreCall, appending, append_failed}
use Rattle.nbt_serve.specs.Serving.{moments_in}
use Rattle.nbt_serve.specs.Devices.{DeviceCall, on_port, on_store, DeviceDoes}
use Rattle.nbt_store.specs.declared.room.Room.TheVariants as there_is
use Rattle.nbt_serve.specs.Sharing.{ShareValue}
use Rattle.nbt_serve.specs.Waiting.{ReplyValue, WaitingValue, batch, counted, more_of, with_line, all_durable, dropped, lay_down, sends_of, leaving}
use Rattle.nbt_serve.specs.Turning.{Took, behind_it, with_any, with_reply, sent_ahead, reply_in, receive_in, told_in, reached, asked_for, is_idle, is_any_reply, leaves, appends_of, taking, Passes, still_waits, all_leave, LeavingFails, sync_fails, send_fails, Fails, reaching_fails, leaving_fails, ahead_fails, append_fails, BreaksKeeping}
use Rattle.nbt_serve.specs.Inner.Passing.{is_any, Leaves, still_wait, now_leave, IsFirst, is_first, is_not_first, PassesOn, passes_on, PassingFails, not_sent, not_left, reply_to, with_held}
use Rattle.nbt_serve.specs.Inner.Taking.{FailsToTake, in_reaching, in_appending}
use Rattle.nbt_serve.specs.declared.fault.KeepFault.{KeepFault}
use Rattle.nbt_serve.specs.declared.fault.KeepFault.TheVariants as fault
use Rattle.nbt_serve.proofs.Left.{fewer}
use Rattle.nbt_serve.proofs.Never.{ahead_from, is_ahead}
use Rattle.nbt_serve.proofs.Leaving.{by_port, by_store}

-- a change is appended
pub appended_one : {S A : Type 0} (keeps : S → StoreCall → S → Type 0) (s t : S) (X : Option Change → Type 0) (change : Change) (old new : WaitingValue) (r : Result A Broken) → X (Some change) → keeps s (appending change r) t → OnOk r (new ≡ with_line change old)
    → OnOk r ((c : Option Change) × X c × Chain keeps s (appends_of c) t × (new ≡ with_any c old))
appended_one keeps s t X change old new (Ok done) x did is = (Some change, x, (t, did, refl), is)
appended_one keeps s t X change old new (Err broken) x did is = tt

pub not_appended_one : {S A : Type 0} (keeps : S → StoreCall → S → Type 0) (s t : S) (X : Option Change → Type 0) (change : Change) (old new : WaitingValue) (r : Result A Broken) → X (Some change) → keeps s (appending change r) t → OnErr r (new ≡ dropped (with_line change old))
    → OnErr r ((one : Change) × X (Some one) × keeps s (append_failed one) t × (new ≡ dropped (with_line one old)))
not_appended_one keeps s t X change old new (Ok done) x did is = tt
not_appended_one keeps s t X change old new (Err broken) x did is = (change, x, did, is)

-- ---- the reply of a turn goes ahead or waits, and what waits leaves or still waits

module _ {P S C : Type 0} (does : P → PortCall → P → Type 0) (keeps : S → StoreCall → S → Type 0) (tells : C → ℕ → C → Type 0) (p q r : P) (s t : S) (c d : C) (life : ℕ) (idle synced : Bool) (asked : Option NameValue) (replies : List ReplyValue) (old new : WaitingValue) (ahead : Bool) (first : IsFirst synced asked old ahead) where
  abbrev From : P → List DeviceCall → Type 0
  From a calls = Chain (DeviceDoes does keeps) (record { port = a; store = s }) calls (record { port = r; store = t })

  module _ (mid : WaitingValue) (posted : List ReplyValue) (posted_are : posted ≡ replies) (did_send : Chain does p (sends_of (sent_ahead ahead posted)) q) (was_held : mid ≡ with_held ahead posted old) (limit : ℕ) (b : Bool) (b_is : b ≡ idle) (limit_is : limit ≡ life) where
    sent : Chain does p (sends_of (sent_ahead ahead replies)) q
    sent = subst (λ (rs : List ReplyValue). Chain does p (sends_of (sent_ahead ahead rs)) q) posted_are did_send

    mid_is : mid ≡ with_held ahead replies old
    mid_is = was_held ∙ ap (λ (rs : List ReplyValue). with_held ahead rs old) posted_are

    abbrev sends : List DeviceCall
    sends = map on_port (sends_of (sent_ahead ahead replies))

    all_calls : (calls : List DeviceCall) → From q calls → From p (sends ++ calls)
    all_calls calls did =
        chain-append (DeviceDoes does keeps) (record { port = p; store = s }) (record { port = q; store = s }) (record { port = r; store = t }) sends calls (by_port does keeps p q s (sends_of (sent_ahead ahead replies)) sent) did

    pub passed_on : (left : Option ℕ) → ((calls : List DeviceCall) × (readings : List ℕ) × Leaves limit b mid calls readings new × From q calls × Chain tells c readings d × (readings ≡ option_to_list left))
        → (calls : List DeviceCall) × (readings : List ℕ) × PassesOn life idle synced asked replies old ahead calls readings new × From p calls × Chain tells c readings d × (readings ≡ option_to_list left)
    passed_on left l = (
      sends ++ l.0,
      l.1,
      passes_on l.0 l.1 new first (subst (λ (w : WaitingValue). Leaves life idle w l.0 l.1 new) mid_is (subst (λ (n : ℕ). Leaves n idle mid l.0 l.1 new) limit_is (subst (λ (x : Bool). Leaves limit x mid l.0 l.1 new) b_is l.2))),
      all_calls l.0 l.3,
      l.4,
      l.5,
    )

    pub left_not : (why : KeepFault) → ((calls : List DeviceCall) × (readings : List ℕ) × (leaves b mid ≡ true) × LeavingFails limit mid why calls readings new × From q calls × Chain tells c readings d)
        → (calls : List DeviceCall) × (readings : List ℕ) × PassingFails life idle synced asked replies old why calls readings new × From p calls × Chain tells c readings d
    left_not why l = (
      sends ++ l.0,
      l.1,
      not_left ahead why l.0 l.1 new first (subst (λ (w : WaitingValue). leaves idle w ≡ true) mid_is (subst (λ (x : Bool). leaves x mid ≡ true) b_is l.2))
          (subst (λ (w : WaitingValue). LeavingFails life w why l.0 l.1 new) mid_is (subst (λ (n : ℕ). LeavingFails n mid why l.0 l.1 new) limit_is l.3)),
      all_calls l.0 l.4,
      l.5,
    )

-- a reply that goes ahead is lost
pub ahead_not_sent : {P S C : Type 0} (does : P → PortCall → P → Type 0) (keeps : S → StoreCall → S → Type 0) (tells : C → ℕ → C → Type 0) (p q : P) (s : S) (c : C) (life read : ℕ) (idle synced : Bool) (asked about : Option NameValue) (to : Option Route) (octets : List ℕ) (old new : WaitingValue) (ahead : Bool) (why : KeepFault)
    → IsFirst synced asked old ahead → ((lost : Route) × (ahead ≡ true) × (to ≡ Some lost) × (why ≡ fault.Port) × does p (send_failed lost octets) q × (new ≡ counted old))
    → (calls : List DeviceCall) × (readings : List ℕ) × PassingFails life idle synced asked (reply_to read about to octets) old why calls readings new × Chain (DeviceDoes does keeps) (record { port = p; store = s }) calls (record { port = q; store = s }) × Chain tells c readings c
ahead_not_sent does keeps tells p q s c life read idle synced asked about to octets old new _ why (is_first goes) l =
    let lost : ReplyValue = record { read = read; about = about; datagram = record { route = l.0; octets = octets } } in
    let one : reply_to read about to octets ≡ lost ∷ [] = ap (λ (o : Option Route). reply_to read about o octets) l.2 in
    rw (l.3, l.5) (on_port (send_failed l.0 octets) ∷ [], [], not_sent lost goes one, (record { port = q; store = s }, (l.4, refl), refl), refl)
ahead_not_sent does keeps tells p q s c life read idle synced asked about to octets old new _ why (is_not_first not) l = absurd (false≢true l.1)

-- ---- a whole turn

-- the calls of a turn: the receive and those of the store, and then those with which what waits leaves
pub taken : {P S : Type 0} (does : P → PortCall → P → Type 0) (keeps : S → StoreCall → S → Type 0) (p q : P) (s t : S) (posted call : PortCall) (stored : List StoreCall) → posted ≡ call → does p call q → Chain keeps s stored t
    → Chain (DeviceDoes does keeps) (record { port = p; store = s }) (on_port posted ∷ map on_store stored) (record { port = q; store = t })
taken does keeps p q s t posted call stored is did kept = (record { port = q; store = s }, (subst (λ (c : PortCall). does p c q) (sym is) did, refl), by_store does keeps q s t stored kept)

pub not_received : {P S : Type 0} (does : P → PortCall → P → Type 0) (keeps : S → StoreCall → S → Type 0) (p q : P) (s : S) → does p receive_failed q
    → Chain (DeviceDoes does keeps) (record { port = p; store = s }) (on_port receive_failed ∷ []) (record { port = q; store = s })
not_received does keeps p q s did = (record { port = q; store = s }, (did, refl), refl)

-- what waits leaves or still waits, after what was taken
module _ (life : ℕ) (t : Took) (old mid : WaitingValue) (idle synced : Bool) (asked : Option NameValue) (replies : List ReplyValue)
    (synced_is : synced ≡ is_any (reached old.durable (moments_in t.turn))) (mid_is : mid ≡ behind_it t old) (idle_is : is_idle t.barred t.turn ≡ idle) (asked_is : asked_for t.turn ≡ asked) (replies_are : reply_in t.turn ≡ replies)
    (quiet : (name : NameValue) → asked ≡ Some name → t.change ≡ None) where
  passed_as : (ahead : Bool) (calls : List DeviceCall) (readings : List ℕ) (new : WaitingValue) → PassesOn life (is_idle t.barred t.turn) synced asked (reply_in t.turn) (behind_it t old) ahead calls readings new → Passes life old t ahead (taking t old ++ calls) readings new
  passed_as ahead _ _ _ (passes_on _ _ _ first (still_wait stays)) =
      let sends = map on_port (sends_of (sent_ahead ahead (reply_in t.turn))) in
      subst (λ (cs : List DeviceCall). Passes life old t ahead (taking t old ++ cs) [] (with_reply ahead t old)) (sym (append-nil sends)) (still_waits (is_ahead t old synced asked synced_is asked_is quiet ahead first) stays)
  passed_as ahead _ _ _ (passes_on _ _ _ first (now_leave due now)) =
      let sends = map on_port (sends_of (sent_ahead ahead (reply_in t.turn))) in
      subst (λ (cs : List DeviceCall). Passes life old t ahead cs (now ∷ []) (dropped (all_durable (with_reply ahead t old)))) (append_assoc (taking t old) sends (leaving life now (with_reply ahead t old)))
      (all_leave (is_ahead t old synced asked synced_is asked_is quiet ahead first) due now)

  pub passed_so : (ahead : Bool) (calls : List DeviceCall) (readings : List ℕ) (new : WaitingValue) → PassesOn life idle synced asked replies mid ahead calls readings new → Passes life old t ahead (taking t old ++ calls) readings new
  passed_so ahead calls readings new l =
      passed_as ahead calls readings new
      (subst (λ (w : WaitingValue). PassesOn life (is_idle t.barred t.turn) synced asked (reply_in t.turn) w ahead calls readings new) mid_is
      (subst (λ (rs : List ReplyValue). PassesOn life (is_idle t.barred t.turn) synced asked rs mid ahead calls readings new) (sym replies_are) (subst (λ (b : Bool). PassesOn life b synced asked replies mid ahead calls readings new) (sym idle_is) l)))

  failed_as : (why : KeepFault) (calls : List DeviceCall) (readings : List ℕ) (new : WaitingValue) → PassingFails life (is_idle t.barred t.turn) synced asked (reply_in t.turn) (behind_it t old) why calls readings new
      → Fails life old (Some t) why (taking t old ++ calls) (told_in t.barred t.turn ++ readings) new
  failed_as _ _ _ _ (not_sent lost first one) =
      let calls = taking t old ++ on_port (send_failed lost.datagram.route lost.datagram.octets) ∷ [] in
      subst (λ (rs : List ℕ). Fails life old (Some t) fault.Port calls rs (with_reply true t old)) (sym (append-nil (told_in t.barred t.turn)))
      (ahead_fails t lost (ahead_from t old synced asked synced_is asked_is quiet first) one)
  failed_as _ _ _ _ (not_left ahead why calls readings new first due fails) =
      let sends = map on_port (sends_of (sent_ahead ahead (reply_in t.turn))) in
      subst (λ (cs : List DeviceCall). Fails life old (Some t) why cs (told_in t.barred t.turn ++ readings) new) (append_assoc (taking t old) sends calls)
      (leaving_fails t ahead why calls readings new (is_ahead t old synced asked synced_is asked_is quiet ahead first) due fails)

  pub failed_so : (why : KeepFault) (calls : List DeviceCall) (readings : List ℕ) (new : WaitingValue) → PassingFails life idle synced asked replies mid why calls readings new → Fails life old (Some t) why (taking t old ++ calls) (told_in t.barred t.turn ++ readings) new
  failed_so why calls readings new l =
      failed_as why calls readings new
      (subst (λ (w : WaitingValue). PassingFails life (is_idle t.barred t.turn) synced asked (reply_in t.turn) w why calls readings new) mid_is
      (subst (λ (rs : List ReplyValue). PassingFails life (is_idle t.barred t.turn) synced asked rs mid why calls readings new) (sym replies_are) (subst (λ (b : Bool). PassingFails life b synced asked replies mid why calls readings new) (sym idle_is) l)))

-- the store failed before that
module _ {P S C : Type 0} (does : P → PortCall → P → Type 0) (keeps : S → StoreCall → S → Type 0) (tells : C → ℕ → C → Type 0) (p q : P) (s t : S) (c d : C) (server new : ServerValue) (share mid : ShareValue) (old after : WaitingValue) (from : Route) (octets : List ℕ) (did : does p (came from octets) q) where
  pub broke : FailsToTake keeps tells s c server share old from octets t d new after
      → BreaksKeeping does keeps tells fault.Store (record { port = p; store = s; clock = c; server = server; share = share; waiting = old }) (record { port = q; store = t; clock = d; server = new; share = mid; waiting = after })
  broke (in_reaching now calls past fails kept told same is) = record {
    took = None;
    calls = on_port (came from octets) ∷ map on_store calls;
    readings = now ∷ [];
    takes = same;
    fails = subst (Fails new.table.config.life old None fault.Store (on_port (came from octets) ∷ map on_store calls) (now ∷ [])) (sym is) (reaching_fails now from octets calls past fails);
    devices_did = taken does keeps p q s t (came from octets) (came from octets) calls refl did kept;
    clock_told = (d, told, refl);
    room = there_is.Ample;
    shared = λ port. cc;
  }
  broke (in_appending turn change takes received kept told is) =
      let stored = flat_map lay_down (reached old.durable (moments_in turn)) ++ append_failed change ∷ [] in
      record {
        took = Some (record { turn = turn; change = Some change; barred = None });
        calls = on_port (receive_in None turn) ∷ map on_store stored;
        readings = moments_in turn;
        takes = takes;
        fails = subst (Fails new.table.config.life old (Some (record { turn = turn; change = Some change; barred = None })) fault.Store (on_port (receive_in None turn) ∷ map on_store stored) (moments_in turn)) (sym is) (append_fails turn change);
        devices_did = taken does keeps p q s t (receive_in None turn) (came from octets) stored received did kept;
        clock_told = told;
        room = there_is.Ample;
        shared = λ port. cc;
      }

-- ---- the room for one reply more

first_false : (a b : Bool) → (a || b) ≡ false → a ≡ false
first_false true b e = absurd cc
first_false false b e = refl

second_false : (a b : Bool) → (a || b) ≡ false → b ≡ false
second_false true b e = absurd cc
second_false false b e = e

room_by : (idle some : Bool) (more : ℕ) (replies : List ReplyValue) → ((is_any_reply replies || some) && (idle || (not some || (nat_le batch (length replies) || nat_eq more 0)))) ≡ false → length replies < batch
room_by idle some more [] stays = omega arith
room_by idle some more (r ∷ rs) stays =
    let few : Bool = nat_le batch (length (r ∷ rs)) in
    leb-false batch (length (r ∷ rs)) (first_false few (nat_eq more 0) (second_false (not some) (few || nat_eq more 0) (second_false idle (not some || (few || nat_eq more 0)) stays)))

left_room : (idle : Bool) (life : ℕ) (old new : WaitingValue) (calls : List DeviceCall) (readings : List ℕ) → Leaves life idle old calls readings new → length new.replies < batch
left_room idle life old _ _ _ (still_wait stays) = room_by idle (is_some old.unsynced) (more_of old.unsynced) old.replies stays
left_room idle life old _ _ _ (now_leave due now) = omega arith

pub room_left : (life : ℕ) (idle synced : Bool) (asked : Option NameValue) (replies : List ReplyValue) (old : WaitingValue) (ahead : Bool) (new : WaitingValue) (calls : List DeviceCall) (readings : List ℕ)
    → PassesOn life idle synced asked replies old ahead calls readings new → length new.replies < batch
room_left life idle synced asked replies old ahead _ _ _ (passes_on calls readings new first l) = left_room idle life (with_held ahead replies old) new calls readings l

few_so : (ahead : Bool) (waiting : WaitingValue) (read : ℕ) (about : Option NameValue) (to : Option Route) (out : List ℕ) → length waiting.replies < batch → length (with_held ahead (reply_to read about to out) waiting).replies ≤ batch
few_so true waiting read about to out room = omega (arith, room)
few_so false waiting read about None out room = let l = length-append waiting.replies [] in omega (arith, l, room)
few_so false waiting read about (Some to) out room = let l = length-append waiting.replies (reply_to read about (Some to) out) in omega (arith, l, room)

failed_room : (life : ℕ) (old new : WaitingValue) (why : KeepFault) (calls : List DeviceCall) (readings : List ℕ) → LeavingFails life old why calls readings new → length old.replies ≤ batch → length new.replies < batch
failed_room life old _ _ _ _ (sync_fails not) few = omega arith
failed_room life old _ _ _ _ (send_fails now before lost rest is) few =
    let l = length-append before (lost ∷ rest) in let e = ap length is in let f = fewer (λ (reply : ReplyValue). nat_le now (reply.read + life)) old.replies in omega (arith, l, e, f, few)

pub room_failed : (life : ℕ) (idle synced : Bool) (asked : Option NameValue) (read : ℕ) (about : Option NameValue) (to : Option Route) (out : List ℕ) (old new : WaitingValue) (why : KeepFault) (calls : List DeviceCall) (readings : List ℕ) → length old.replies < batch
    → PassingFails life idle synced asked (reply_to read about to out) old why calls readings new → length new.replies < batch
room_failed life idle synced asked read about to out old _ _ _ _ room (not_sent lost first one) = room
room_failed life idle synced asked read about to out old _ _ _ _ room (not_left ahead why calls readings new first due fails) =
    failed_room life (with_held ahead (reply_to read about to out) old) new why calls readings fails (few_so ahead old read about to out room)
