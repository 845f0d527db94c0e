-- A turn of a server that keeps its leases is a part of its life with its devices: what it receives and replies to, and what waits.
use Rattle.std.proofs.Common.{◌≡◌, ◌≤◌, ◌+◌, ℕ, nat_le, Bool, true, false, List, [], ◌∷◌, ◌++◌, map, Contains, Option, Some, None, IfSome, refl, sym, ap, subst, ◌∙◌, append-nil, inl, inr, arith}
use Rattle.std.specs.List.{flat_map, AllByRecursion}
use Rattle.std.proofs.lemmas.Bool.{cases_Bool, leb-true}
use Rattle.std.proofs.lemmas.List.Elements.{Contains-append_right}
use Rattle.nbt_lease.specs.Config.{ConfigValue}
use Rattle.nbt_packet.specs.Message.{MessageValue}
use Rattle.nbt_packet.specs.Text.{text}
use Rattle.nbt_port.specs.declared.port.Route.{Route}
use Rattle.nbt_port.specs.PortCalls.{PortCall, nothing_came, came, receive_failed, sent, send_failed, Chain}
use Rattle.nbt_server.specs.Serving.{ServerValue}
use Rattle.nbt_store.specs.Calls.{StoreCall, append_failed, sync_failed}
use Rattle.nbt_store.specs.declared.change.Change.{Change}
use Rattle.nbt_serve.specs.Devices.{DeviceCall, on_port, on_store, DeviceDoes}
use Rattle.nbt_serve.specs.Runs.{stored_in}
use Rattle.nbt_serve.specs.Serving.{Turn, is_empty, is_taken, is_lost, moments_in}
use Rattle.nbt_serve.specs.Turning.{Barred, Took, Takes, TakesAny, reply_in, receive_in, told_in, reached, with_lines, with_any, before_it, stores, behind_it, sent_ahead, with_reply, first_calls, Passes, still_waits, all_leave, LeavingFails, sync_fails, send_fails, Fails, receive_fails, reaching_fails, append_fails, ahead_fails, leaving_fails}
use Rattle.nbt_serve.specs.Waiting.{ReplyValue, WaitingValue, laid_down, lay_down, syncs_of, sends_of, timely, leaving}
use Rattle.nbt_serve.specs.declared.fault.KeepFault.{KeepFault}
use Rattle.nbt_net.specs.Wire.{Act}
use Rattle.nbt_net.specs.Servers.{up, ServerLives}
use Rattle.nbt_net.specs.Turns.{act_of}
use Rattle.nbt_net.specs.Devices.{Call, of_port, reads, Machine, MachineDoes, StoreDoes, devices_in, Story, going_on, IsOfAnAct, AreActs, ends, is_quiet, acts_on}
use Rattle.nbt_net.proofs.Ordering.{kept_machine, put_in_order, some_kept, calls_of, port_alone, store_alone, in_order, ports_ordered, read_ordered, kept_ordered, devices_ordered}
use Rattle.nbt_net.proofs.Parts.{acts-append, quiet_reading, IsInOrder, all_in_order, all-append, all_stored, Part, still_acted, just_acted}
use Rattle.nbt_net.proofs.ServerTurns.{one_lived}

-- ---- what waits

-- A reply is of an act of the story, at the time at which its request was read.
pub record IsOwed (story : Story) (reply : ReplyValue) : Type 0 where
  pub act : Act
  pub acted : Contains story.acts act
  pub sends : Contains act.calls (sent reply.datagram.route reply.datagram.octets)
  pub read_is : act.now ≡ reply.read

abbrev pub AreOwed : List ReplyValue → Story → Type 0
AreOwed replies story = AllByRecursion (IsOwed story) replies

owed_on : (now : ℕ) (acts : List Act) (story : Story) (replies : List ReplyValue) → AreOwed replies story → AreOwed replies (going_on now acts story)
owed_on now acts story [] owed = tt
owed_on now acts story (reply ∷ replies) owed =
    let first = owed.0 in
    (record { act = first.act; acted = still_acted now acts story first.act first.acted; sends = first.sends; read_is = first.read_is }, owed_on now acts story replies owed.1)

pub owed_at_a_reading : (replies : List ReplyValue) (now : ℕ) (story : Story) → AreOwed replies story → AreOwed replies (going_on now [] story)
owed_at_a_reading replies now story owed = owed_on now [] story replies owed

-- ---- what leaves

-- so long ago at most
owed_sends : (life : ℕ) (story : Story) (reply : ReplyValue) → story.last ≤ reply.read + life → IsOwed story reply → IsOfAnAct life story reply.datagram.route reply.datagram.octets
owed_sends life story reply soon owed = let read = owed.read_is in record { act = owed.act; acted = owed.acted; sends = inl owed.sends; in_time = omega (arith, soon, read) }

pub record IsTimely (life : ℕ) (story : Story) (reply : ReplyValue) : Type 0 where
  pub owed : IsOwed story reply
  pub soon : story.last ≤ reply.read + life

all_leave_so : (life : ℕ) (story : Story) (replies : List ReplyValue) → AllByRecursion (IsTimely life story) replies → AllByRecursion (IsInOrder life story) (map on_port (sends_of replies))
all_leave_so life story [] all = tt
all_leave_so life story (reply ∷ replies) all = (owed_sends life story reply all.0.soon all.0.owed, all_leave_so life story replies all.1)

all_timely : (life now : ℕ) (story : Story) (replies : List ReplyValue) → AreOwed replies story → story.last ≡ now → AllByRecursion (IsTimely life story) (timely life now replies)
all_timely life now story [] owed is = tt
all_timely life now story (reply ∷ replies) owed is = elim (cases_Bool (nat_le now (reply.read + life))) [
  | inl early ↦
      let soon = leb-true now (reply.read + life) early in
      subst (AllByRecursion (IsTimely life story)) (sym (kept_first early)) (record { owed = owed.0; soon = omega (arith, soon, is) }, all_timely life now story replies owed.1 is)
  | inr late ↦ subst (AllByRecursion (IsTimely life story)) (sym (left_first late)) (all_timely life now story replies owed.1 is)
]
  where
    kept_first : nat_le now (reply.read + life) ≡ true → timely life now (reply ∷ replies) ≡ reply ∷ timely life now replies
    kept_first early = rw early refl

    left_first : nat_le now (reply.read + life) ≡ false → timely life now (reply ∷ replies) ≡ timely life now replies
    left_first late = rw late refl

all_owed : (life : ℕ) (story : Story) (replies : List ReplyValue) → AllByRecursion (IsTimely life story) replies → AreOwed replies story
all_owed life story [] all = tt
all_owed life story (reply ∷ replies) all = (all.0.owed, all_owed life story replies all.1)

all_split : {A : Type 0} (P : A → Type 0) (xs ys : List A) → AllByRecursion P (xs ++ ys) → AllByRecursion P xs × AllByRecursion P ys
all_split P [] ys all = (tt, all)
all_split P (x ∷ xs) ys all = let rest = all_split P xs ys all.1 in ((all.0, rest.0), rest.1)

-- those leave, and the next is lost
lost_last : (life : ℕ) (story : Story) (before : List ReplyValue) (lost : ReplyValue) → AllByRecursion (IsTimely life story) before → IsTimely life story lost
    → AllByRecursion (IsInOrder life story) (map on_port (sends_of before ++ send_failed lost.datagram.route lost.datagram.octets ∷ []))
lost_last life story [] lost all last = (owed_sends life story lost last.soon last.owed, tt)
lost_last life story (reply ∷ before) lost all last = (owed_sends life story reply all.0.soon all.0.owed, lost_last life story before lost all.1 last)

-- ---- which replies wait

lines_keep : (changes : List Change) (waiting : WaitingValue) → (with_lines changes waiting).replies ≡ waiting.replies
lines_keep [] waiting = refl
lines_keep (change ∷ changes) waiting = lines_keep changes (laid_down change waiting)

any_keeps : (change : Option Change) (waiting : WaitingValue) → (with_any change waiting).replies ≡ waiting.replies
any_keeps None waiting = refl
any_keeps (Some change) waiting = refl

behind_keeps : (took : Took) (waiting : WaitingValue) → (behind_it took waiting).replies ≡ waiting.replies
behind_keeps took waiting = any_keeps took.change (before_it took.turn waiting) ∙ lines_keep (reached waiting.durable (moments_in took.turn)) waiting

-- ---- a receive

-- What a turn received is its act, if it is one, and its reply is owed then.
record Received (life : ℕ) (barred : Option Barred) (turn : Turn) (story : Story) : Type 0 where
  pub after : Story
  pub acts_are : after.acts ≡ story.acts ++ act_of turn
  pub front : (calls : List Call) (new : Story) → AreActs life after calls new → AreActs life story (of_port (receive_in barred turn) ∷ (map reads (told_in barred turn) ++ calls)) new
  pub replies : AllByRecursion (IsTimely life after) (reply_in turn)
  pub still : (waiting : List ReplyValue) → AreOwed waiting story → AreOwed waiting after

one_there : {A : Type 0} (x : A) (xs : List A) → Contains (x ∷ xs) x
one_there x xs = (0, omega arith, refl)

received_one : (life : ℕ) (story : Story) (now : ℕ) (from : Route) (octets : List ℕ) (reply : Option MessageValue) → Received life None (is_taken now from octets reply) story
received_one life story now from octets None = record {
  after = going_on now (act_of (is_taken now from octets None)) story;
  acts_are = refl;
  front = λ calls new rest. acts_on story new from octets now (act_of (is_taken now from octets None)) calls (refl, tt) refl rest;
  replies = tt;
  still = λ waiting owed. owed_on now (act_of (is_taken now from octets None)) story waiting owed;
}
received_one life story now from octets (Some reply) = record {
  after = after;
  acts_are = refl;
  front = λ calls new rest. acts_on story new from octets now acts calls (refl, tt) refl rest;
  replies = (record { owed = record { act = act; acted = just_acted now acts story act (one_there act []); sends = Contains-append_right (came from octets ∷ []) (sent from (text reply) ∷ []) (sent from (text reply)) (one_there (sent from (text reply)) []); read_is = refl }; soon = omega arith }, tt);
  still = λ waiting owed. owed_on now acts story waiting owed;
}
  where
    acts : List Act
    acts = act_of (is_taken now from octets (Some reply))

    act : Act
    act = record { now = now; calls = came from octets ∷ sent from (text reply) ∷ [] }

    after : Story
    after = going_on now acts story

received : (life : ℕ) (story : Story) (turn : Turn) → Received life None turn story
received life story is_empty = record {
  after = story;
  acts_are = sym (append-nil story.acts);
  front = λ calls new rest. is_quiet story new (of_port nothing_came) calls tt rest;
  replies = tt;
  still = λ waiting owed. owed;
}
received life story (is_taken now from octets reply) = received_one life story now from octets reply
received life story (is_lost now from octets) = record {
  after = going_on now (act_of (is_lost now from octets)) story;
  acts_are = refl;
  front = λ calls new rest. acts_on story new from octets now (act_of (is_lost now from octets)) calls (refl, tt) refl rest;
  replies = tt;
  still = λ waiting owed. owed_on now (act_of (is_lost now from octets)) story waiting owed;
}

-- a datagram that is barred comes to nothing
barred_came : (life : ℕ) (story : Story) (barred : Barred) (turn : Turn) → turn ≡ is_empty → Received life (Some barred) turn story
barred_came life story barred turn empty = subst (λ (t : Turn). Received life (Some barred) t story) (sym empty) (record {
  after = going_on barred.now [] story;
  acts_are = refl;
  front = λ calls new rest. is_quiet story new (of_port (came barred.from barred.octets)) (reads barred.now ∷ calls) tt (quiet_reading barred.now rest);
  replies = tt;
  still = λ waiting owed. owed_on barred.now [] story waiting owed;
})

took_so : (life : ℕ) (story : Story) (old new : ServerValue) (took : Took) → Takes old took new → Received life took.barred took.turn story
took_so life story old new took takes = by took.barred takes.nothing_came
  where
    by : (barred : Option Barred) → IfSome barred (λ b. (took.turn ≡ is_empty) × (took.change ≡ None)) → Received life barred took.turn story
    by None none = received life story took.turn
    by (Some barred) empty = barred_came life story barred took.turn empty.0

-- ---- a turn

module _ {P C S : Type 0} (does : P → PortCall → P → Type 0) (keeps : S → StoreCall → S → Type 0) (tells : C → ℕ → C → Type 0) (config : ConfigValue) where
  -- a part of a server's life, by the replies that wait before and after it
  abbrev pub ServerPart : ServerValue → List ReplyValue → Machine P C S → ServerValue → List ReplyValue → Machine P C S → Type 0
  ServerPart old waited before new waits after = Part (ServerLives config) config.life does tells keeps (AreOwed waited) (up old) before (AreOwed waits) (up new) after

  -- and which calls of the port and the store those were
  pub record KeptPart (old : ServerValue) (waited : List ReplyValue) (before : Machine P C S) (new : ServerValue) (waits : List ReplyValue) (after : Machine P C S) (calls : List DeviceCall) : Type 0 where
    pub part : ServerPart old waited before new waits after
    pub calls_are : devices_in part.calls ≡ calls

  module _ (old_port port : P) (old_clock clock : C) (old_store store : S) where
    -- devices that did so, in such an order
    ordered : (hearing : PortCall) (told : List ℕ) (calls : List DeviceCall) (later : List ℕ) (back : List DeviceCall) → Chain (DeviceDoes does keeps) (record { port = old_port; store = old_store }) ((on_port hearing ∷ calls) ++ back) (record { port = port; store = store })
        → Chain tells old_clock (told ++ later) clock → Chain (MachineDoes does tells keeps) (kept_machine old_port old_clock old_store) (in_order hearing told calls later back) (kept_machine port clock store)
    ordered hearing told calls later back did clock_told =
        put_in_order does tells keeps (in_order hearing told calls later back) (kept_machine old_port old_clock old_store) (kept_machine port clock store)
        (subst (λ (cs : List PortCall). Chain does old_port cs port) (sym (ports_ordered hearing told calls later back)) (port_alone does keeps ((on_port hearing ∷ calls) ++ back) (record { port = old_port; store = old_store }) (record { port = port; store = store }) did))
        (subst (λ (ns : List ℕ). Chain tells old_clock ns clock) (sym (read_ordered hearing told calls later back)) clock_told)
        (subst (λ (cs : List StoreCall). Chain (StoreDoes keeps) (Some old_store) cs (Some store)) (sym (kept_ordered hearing told calls later back))
        (some_kept keeps (stored_in ((on_port hearing ∷ calls) ++ back)) old_store store (store_alone does keeps ((on_port hearing ∷ calls) ++ back) (record { port = old_port; store = old_store }) (record { port = port; store = store }) did)))

    -- A part of these calls: what was received is acts of the server's life, and all that is sent is in order.
    made : (old new : ServerValue) (waited waits : List ReplyValue) (acts : List Act) (hearing : PortCall) (told : List ℕ) (calls : List DeviceCall) (later : List ℕ) (back : List DeviceCall) {all : List DeviceCall} {readings : List ℕ}
        → Chain (DeviceDoes does keeps) (record { port = old_port; store = old_store }) all (record { port = port; store = store }) → Chain tells old_clock readings clock → all ≡ (on_port hearing ∷ calls) ++ back → readings ≡ told ++ later
        → Chain (ServerLives config) (up old) acts (up new)
        → ((story : Story) → AreOwed waited story → (after : Story) × (after.acts ≡ story.acts ++ acts) × AreActs config.life story (in_order hearing told calls later back) after × AreOwed waits after)
        → KeptPart old waited (kept_machine old_port old_clock old_store) new waits (kept_machine port clock store) all
    made old new waited waits acts hearing told calls later back did clock_told all_is readings_are lived goes = record {
      part = record {
        calls = in_order hearing told calls later back;
        acts = acts;
        did = ordered hearing told calls later back
            (subst (λ (cs : List DeviceCall). Chain (DeviceDoes does keeps) (record { port = old_port; store = old_store }) cs (record { port = port; store = store })) all_is did)
            (subst (λ (ns : List ℕ). Chain tells old_clock ns clock) readings_are clock_told);
        lived = lived;
        goes = goes;
      };
      calls_are = devices_ordered hearing told calls later back ∙ sym all_is;
    }

  -- ---- what a turn that took something did first

  module _ (old new : ServerValue) (waited : WaitingValue) (took : Took) (does_so : Takes old took new) where
    front : (story : Story) → Received config.life took.barred took.turn story
    front story = took_so config.life story old new took does_so

    -- the store's calls, and the reply where it went ahead
    abbrev rest_of : (ahead : Bool) → List DeviceCall
    rest_of ahead = map on_store (stores took waited) ++ map on_port (sends_of (sent_ahead ahead (reply_in took.turn)))

    in_order_so : (ahead : Bool) (story : Story) → AllByRecursion (IsInOrder config.life (front story).after) (rest_of ahead)
    in_order_so ahead story = all-append (IsInOrder config.life (front story).after) (map on_store (stores took waited)) (map on_port (sends_of (sent_ahead ahead (reply_in took.turn)))) (all_stored config.life (front story).after (stores took waited)) (by ahead)
      where
        by : (ahead : Bool) → AllByRecursion (IsInOrder config.life (front story).after) (map on_port (sends_of (sent_ahead ahead (reply_in took.turn))))
        by true = all_leave_so config.life (front story).after (reply_in took.turn) (front story).replies
        by false = tt

    -- what waits after it
    waits_behind : (story : Story) → AreOwed waited.replies story → AreOwed (behind_it took waited).replies (front story).after
    waits_behind story owed = subst (λ (rs : List ReplyValue). AreOwed rs (front story).after) (sym (behind_keeps took waited)) ((front story).still waited.replies owed)

    waits_so : (ahead : Bool) (story : Story) → AreOwed waited.replies story → AreOwed (with_reply ahead took waited).replies (front story).after
    waits_so true story owed = waits_behind story owed
    waits_so false story owed = all-append (IsOwed (front story).after) (behind_it took waited).replies (reply_in took.turn) (waits_behind story owed) (all_owed config.life (front story).after (reply_in took.turn) (front story).replies)

    -- the acts of such a turn up to there, and behind it
    first_acts : (ahead : Bool) (story : Story) (later : List Call) (after : Story) → AreActs config.life (front story).after later after
        → AreActs config.life story (of_port (receive_in took.barred took.turn) ∷ (map reads (told_in took.barred took.turn) ++ (calls_of (rest_of ahead) ++ later))) after
    first_acts ahead story later after rest = (front story).front (calls_of (rest_of ahead) ++ later) after (acts-append (all_in_order (rest_of ahead) (in_order_so ahead story)) rest)

    lived_so : Chain (ServerLives config) (up old) (act_of took.turn) (up new)
    lived_so = one_lived config does_so.server

    -- what waits may leave at a reading
    abbrev at_reading : (now : ℕ) → Story → Story
    at_reading now story = going_on now [] (front story).after

    may_leave : (ahead : Bool) (now : ℕ) (story : Story) → AreOwed waited.replies story → AllByRecursion (IsTimely config.life (at_reading now story)) (timely config.life now (with_reply ahead took waited).replies)
    may_leave ahead now story owed =
        all_timely config.life now (at_reading now story) (with_reply ahead took waited).replies (owed_at_a_reading (with_reply ahead took waited).replies now (front story).after (waits_so ahead story owed)) refl

    reading_acts : (now : ℕ) (story : Story) → (at_reading now story).acts ≡ story.acts ++ act_of took.turn
    reading_acts now story = append-nil (front story).after.acts ∙ (front story).acts_are

  module _ (old_port port : P) (old_clock clock : C) (old_store store : S) where
    abbrev Devices_did : List DeviceCall → Type 0
    Devices_did calls = Chain (DeviceDoes does keeps) (record { port = old_port; store = old_store }) calls (record { port = port; store = store })

    abbrev KeptFrom : ServerValue → List ReplyValue → ServerValue → List ReplyValue → List DeviceCall → Type 0
    KeptFrom old waited new waits calls = KeptPart old waited (kept_machine old_port old_clock old_store) new waits (kept_machine port clock store) calls

    -- a turn that goes well
    pub turned : {old new : ServerValue} {waited waits : WaitingValue} {took : Took} {ahead : Bool} {calls : List DeviceCall} {readings : List ℕ} → Takes old took new → Passes config.life waited took ahead calls readings waits → Devices_did calls
        → Chain tells old_clock (told_in took.barred took.turn ++ readings) clock → KeptFrom old waited.replies new waits.replies calls
    turned {old} {new} {waited} {took = took} {ahead} takes (still_waits which none) did told =
        made old_port port old_clock clock old_store store old new waited.replies (with_reply ahead took waited).replies (act_of took.turn) (receive_in took.barred took.turn) (told_in took.barred took.turn) (rest_of old new waited took takes ahead) [] []
        did told (sym (append-nil (first_calls ahead took waited))) refl (lived_so old new waited took takes)
        (λ story owed. (
          (front old new waited took takes story).after,
          (front old new waited took takes story).acts_are,
          first_acts old new waited took takes ahead story [] _ (ends (front old new waited took takes story).after),
          waits_so old new waited took takes ahead story owed,
        ))
    turned {old} {new} {waited} {took = took} {ahead} takes (all_leave which some now) did told =
        made old_port port old_clock clock old_store store old new waited.replies [] (act_of took.turn) (receive_in took.barred took.turn) (told_in took.barred took.turn) (rest_of old new waited took takes ahead) (now ∷ []) (leaving config.life now (with_reply ahead took waited))
        did told refl refl (lived_so old new waited took takes)
        (λ story owed. (
          at_reading old new waited took takes now story,
          reading_acts old new waited took takes now story,
          first_acts old new waited took takes ahead story _ _ (quiet_reading now (all_in_order (leaving config.life now (with_reply ahead took waited))
              (all-append (IsInOrder config.life (at_reading old new waited took takes now story)) (map on_store (syncs_of (with_reply ahead took waited).unsynced)) (map on_port (sends_of (timely config.life now (with_reply ahead took waited).replies)))
              (all_stored config.life (at_reading old new waited took takes now story) (syncs_of (with_reply ahead took waited).unsynced))
              (all_leave_so config.life (at_reading old new waited took takes now story) (timely config.life now (with_reply ahead took waited).replies) (may_leave old new waited took takes ahead now story owed))))),
          tt,
        ))

    -- what waits leaves, but a device fails
    leaving_failed : {old new : ServerValue} {waits : WaitingValue} {why : KeepFault} {calls : List DeviceCall} {readings : List ℕ} (waited : WaitingValue) (took : Took) (ahead : Bool) → (takes : Takes old took new) → LeavingFails config.life (with_reply ahead took waited) why calls readings waits
        → Devices_did (first_calls ahead took waited ++ calls) → Chain tells old_clock (told_in took.barred took.turn ++ readings) clock → KeptFrom old waited.replies new waits.replies (first_calls ahead took waited ++ calls)
    leaving_failed {old} {new} waited took ahead takes (sync_fails some) did told =
        made old_port port old_clock clock old_store store old new waited.replies [] (act_of took.turn) (receive_in took.barred took.turn) (told_in took.barred took.turn) (rest_of old new waited took takes ahead) [] (on_store sync_failed ∷ [])
        did told refl refl (lived_so old new waited took takes)
        (λ story owed. (
          (front old new waited took takes story).after,
          (front old new waited took takes story).acts_are,
          first_acts old new waited took takes ahead story _ _ (all_in_order (on_store sync_failed ∷ []) (tt, tt)),
          tt,
        ))
    leaving_failed {old} {new} waited took ahead takes (send_fails now before lost rest split) did told =
        made old_port port old_clock clock old_store store old new waited.replies rest (act_of took.turn) (receive_in took.barred took.turn) (told_in took.barred took.turn) (rest_of old new waited took takes ahead) (now ∷ [])
        (map on_store (syncs_of (with_reply ahead took waited).unsynced) ++ map on_port (sends_of before ++ send_failed lost.datagram.route lost.datagram.octets ∷ []))
        did told refl refl (lived_so old new waited took takes)
        (λ story owed.
        let all = all_split (IsTimely config.life (at_reading old new waited took takes now story)) before (lost ∷ rest) (subst (AllByRecursion (IsTimely config.life (at_reading old new waited took takes now story))) split (may_leave old new waited took takes ahead now story owed)) in (
          at_reading old new waited took takes now story,
          reading_acts old new waited took takes now story,
          first_acts old new waited took takes ahead story _ _ (quiet_reading now (all_in_order (map on_store (syncs_of (with_reply ahead took waited).unsynced) ++ map on_port (sends_of before ++ send_failed lost.datagram.route lost.datagram.octets ∷ []))
              (all-append (IsInOrder config.life (at_reading old new waited took takes now story)) (map on_store (syncs_of (with_reply ahead took waited).unsynced)) (map on_port (sends_of before ++ send_failed lost.datagram.route lost.datagram.octets ∷ []))
              (all_stored config.life (at_reading old new waited took takes now story) (syncs_of (with_reply ahead took waited).unsynced))
              (lost_last config.life (at_reading old new waited took takes now story) before lost all.0 all.1.0)))),
          all_owed config.life (at_reading old new waited took takes now story) rest all.1.1,
        ))

    -- a turn in which a device fails
    pub broken : {old new : ServerValue} {waited waits : WaitingValue} {took : Option Took} {why : KeepFault} {calls : List DeviceCall} {readings : List ℕ} → TakesAny old took new → Fails config.life waited took why calls readings waits → Devices_did calls
        → Chain tells old_clock readings clock → KeptFrom old waited.replies new waits.replies calls
    broken {old} {new} {waited} none receive_fails did told =
        made old_port port old_clock clock old_store store old new waited.replies waited.replies [] receive_failed [] [] [] [] did told refl refl (ap up none)
        (λ story owed. (story, sym (append-nil story.acts), is_quiet story story (of_port receive_failed) [] tt (ends story), owed))
    broken {old} {new} {waited} none (reaching_fails now from octets calls past fails) did told =
        made old_port port old_clock clock old_store store old new waited.replies [] [] (came from octets) (now ∷ []) (map on_store calls) [] [] did told (sym (append-nil (on_port (came from octets) ∷ map on_store calls))) refl (ap up none)
        (λ story owed. (
          going_on now [] story,
          refl,
          is_quiet story _ (of_port (came from octets)) _ tt (quiet_reading now (acts-append (all_in_order (map on_store calls) (all_stored config.life (going_on now [] story) calls)) (ends (going_on now [] story)))),
          tt,
        ))
    broken {old} {new} {waited} takes (append_fails turn change) did told =
        let took : Took = record { turn = turn; change = Some change; barred = None } in
        let tried : List StoreCall = flat_map lay_down (reached waited.durable (moments_in turn)) ++ append_failed change ∷ [] in
        made old_port port old_clock clock old_store store old new waited.replies [] (act_of turn) (receive_in None turn) (moments_in turn) (map on_store tried) [] []
        did told (sym (append-nil (on_port (receive_in None turn) ∷ map on_store tried))) (sym (append-nil (moments_in turn))) (lived_so old new waited took takes)
        (λ story owed. (
          (front old new waited took takes story).after,
          (front old new waited took takes story).acts_are,
          (front old new waited took takes story).front _ _ (acts-append (all_in_order (map on_store tried) (all_stored config.life (front old new waited took takes story).after tried)) (ends (front old new waited took takes story).after)),
          tt,
        ))
    broken {old} {new} {waited} takes (ahead_fails took lost goes reply_is) did told =
        let tried : List DeviceCall = map on_store (stores took waited) ++ on_port (send_failed lost.datagram.route lost.datagram.octets) ∷ [] in
        made old_port port old_clock clock old_store store old new waited.replies (with_reply true took waited).replies (act_of took.turn) (receive_in took.barred took.turn) (told_in took.barred took.turn) tried [] []
        did told (sym (append-nil (on_port (receive_in took.barred took.turn) ∷ tried))) (sym (append-nil (told_in took.barred took.turn))) (lived_so old new waited took takes)
        (λ story owed.
        let own = (subst (AllByRecursion (IsTimely config.life (front old new waited took takes story).after)) reply_is (front old new waited took takes story).replies).0 in (
          (front old new waited took takes story).after,
          (front old new waited took takes story).acts_are,
          (front old new waited took takes story).front _ _ (acts-append (all_in_order tried (all-append (IsInOrder config.life (front old new waited took takes story).after) (map on_store (stores took waited)) (on_port (send_failed lost.datagram.route lost.datagram.octets) ∷ []) (all_stored config.life (front old new waited took takes story).after (stores took waited))
              (owed_sends config.life (front old new waited took takes story).after lost own.soon own.owed, tt))) (ends (front old new waited took takes story).after)),
          waits_so old new waited took takes true story owed,
        ))
    broken {old} {new} {waited} takes (leaving_fails took ahead why calls readings waits which some fails) did told = leaving_failed waited took ahead takes fails did told
