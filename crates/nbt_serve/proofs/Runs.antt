-- Steps and runs of a server that keeps its leases, with what a crash leaves at each call.
use Rattle.std.proofs.Common.{◌≡◌, ℕ, ◌+◌, ◌≤◌, Bool, true, false, List, [], ◌∷◌, ◌++◌, map, Option, Some, None, refl, sym, ap, ◌∙◌, subst, arith}
use Rattle.std.specs.Prelude.{max}
use Rattle.std.specs.List.{flat_map}
use Rattle.std.proofs.lemmas.List.{append_assoc, append-nil, map-append}
use Rattle.nbt_port.specs.declared.port.Route.{Route}
use Rattle.nbt_port.specs.Memory.{DatagramValue}
use Rattle.nbt_port.specs.PortCalls.{nothing_came, came, receive_failed, sent, send_failed, Chain}
use Rattle.nbt_name.specs.Wire.{NameValue}
use Rattle.nbt_lease.specs.Lease.{Leases}
use Rattle.nbt_packet.specs.Message.{MessageValue}
use Rattle.nbt_packet.specs.Spelling.{name_in}
use Rattle.nbt_packet.specs.Text.{text}
use Rattle.nbt_server.specs.Serving.{ServerValue}
use Rattle.nbt_server.specs.Calls.{ServerTakes}
use Rattle.nbt_store.specs.declared.change.Change.{Change}
use Rattle.nbt_store.specs.declared.change.Change.TheVariants.{Reached, Looked}
use Rattle.nbt_store.specs.declared.header.Header.{Header}
use Rattle.nbt_store.specs.Calls.{StoreCall, append_failed, sync_failed, renewal_began, renewal_went_on, renewed, renewal_failed, Draft, kept_all, put_in_place, after_call, after_calls, MayLeaveAfter, first_changes, as_drafted}
use Rattle.nbt_store.specs.Changes.{after_all, begun_all, no_leases}
use Rattle.nbt_serve.specs.Serving.{Turn, is_empty, is_taken, is_lost, moments_in, Turns, takes}
use Rattle.nbt_serve.specs.Changing.{IsKept, after_any}
use Rattle.nbt_serve.specs.Devices.{DeviceCall, on_port, on_store}
use Rattle.nbt_serve.specs.Waiting.{ReplyValue, WaitingValue, IsAbout, none_waits, IsClear, counted, dropped, durable_then, lay_down, laid_down, LineFails, sends_of}
use Rattle.nbt_serve.specs.Turning.{Barred, Took, answered, Takes, TakesAny, RestsOnNothing, all_stands, of_no_change, IsAhead, goes_ahead, waits, with_reply, first_calls, before_it, behind_it, behind, reach, reached, reply_in, asked_for, taking, stores, receive_in, Passes, still_waits, all_leave, sync_fails, send_fails, Fails, receive_fails, reaching_fails, append_fails, leaving_fails, ahead_fails}
use Rattle.nbt_serve.specs.Runs.{Held, Seen, live_rows, Steps, takes_turn, port_fails, looks, begins_renewal, goes_on_renewing, renews, calls_in, turn_of, turns_in, stored_in, gone_in, last_by, last_drafted, last_left, IsEarlier, MayBeSent}
use Rattle.nbt_serve.specs.declared.fault.KeepFault.TheVariants as fault
use Rattle.nbt_serve.proofs.Left.{last_from, stand_begun}
use Rattle.nbt_serve.proofs.Never.{change_none, before_same, behind_same}
use Rattle.nbt_serve.proofs.Asked.{turn_onward}
use Rattle.nbt_serve.proofs.Crashes.{Past, Drafted, by_call, May, Safe, Along, Good, Goes, safe_of, safe_more, along_more, along-append, durable_good, joined, and_then, counted_goes, took, asked_good, may_ask, left, part_left, maybe_changed, came_to, turn_soon, laid, not_laid, sent_at_once, lost_at_once}
use Rattle.nbt_serve.proofs.Renewed.{renewed_kept}

taken_of : (old new : ServerValue) (now : ℕ) (from : Route) (octets : List ℕ) (reply : Option MessageValue) → Turns old (is_taken now from octets reply) new → ServerTakes old now from.peer.ip octets reply new
taken_of old _ _ _ _ _ (takes now from octets reply new does) = does

module _ (first : ServerValue) (turns : List Turn) (server : ServerValue) (w : WaitingValue) (p : Past) (g : Good first turns server w p) where
  safe_then : (turn : Turn) → Safe first (turns ++ turn ∷ []) p
  safe_then turn = safe_more first turns (turn ∷ []) p (safe_of first turns server w p g)

  -- A query is answered, about whose name no reply waits: its answer leaves, or is lost.
  module _ (barred : Option Barred) (turn : Turn) (change : Option Change) (new : ServerValue) (taken : Takes server (record { turn = turn; change = change; barred = barred }) new) (none : stores (record { turn = turn; change = change; barred = barred }) w ≡ []) (name : NameValue) (not : ¬ IsAbout name w.replies) where
    soon_then : new.last ≤ w.durable + reach
    soon_then = subst (λ (v : WaitingValue). new.last ≤ v.durable + reach) (before_same (record { turn = turn; change = change; barred = barred }) w none) (turn_soon server new turn w taken.server g.soon)

    keeps_all : (kept : Leases) → IsKept kept server → IsKept kept new
    keeps_all kept k = subst (λ (c : Option Change). IsKept (after_any c kept) new) (change_none (record { turn = turn; change = change; barred = barred }) w none) (taken.keeps kept k)

  -- by whatever call the datagram was received
  module _ (barred : Option Barred) (change : Option Change) (new : ServerValue) (now : ℕ) (from : Route) (octets : List ℕ) (reply : MessageValue)
      (taken : Takes server (record { turn = is_taken now from octets (Some reply); change = change; barred = barred }) new) (none : stores (record { turn = is_taken now from octets (Some reply); change = change; barred = barred }) w ≡ [])
      (name : NameValue) (asks : answered (Some reply) ≡ Some name) (not : ¬ IsAbout name w.replies) (posted : Route) (read : List ℕ) where
    abbrev asking : Turn
    asking = is_taken now from octets (Some reply)

    does : ServerTakes server now from.peer.ip octets (Some reply) new
    does = taken_of server new now from octets (Some reply) taken.server

    answer_goes : Goes first (turns ++ asking ∷ []) new w p (on_port (came posted read) ∷ map on_port (sends_of (reply_in asking)))
    answer_goes =
        let soon = soon_then barred asking change new taken none name not in
        let h = asked_good first turns server new w now from octets reply name does asks not soon p (keeps_all barred asking change new taken none name not) g in
        let s = safe_then asking in
        record { along = (s, tt, (s, may_ask first turns server new w now from octets reply name does asks not soon p g, safe_of first (turns ++ asking ∷ []) new w _ h)); good = h }

    answer_lost : (lost : ReplyValue) → reply_in asking ≡ lost ∷ [] → Goes first (turns ++ asking ∷ []) new w p (on_port (came posted read) ∷ on_port (send_failed lost.datagram.route lost.datagram.octets) ∷ [])
    answer_lost lost one =
        let h = asked_good first turns server new w now from octets reply name does asks not (soon_then barred asking change new taken none name not) p (keeps_all barred asking change new taken none name not) g in
        let s = safe_then asking in
        let same : record { read = now; about = name_in reply; datagram = record { route = from; octets = text reply } } ≡ lost = cc in
        subst (λ (r : ReplyValue). Goes first (turns ++ asking ∷ []) new w p (on_port (came posted read) ∷ on_port (send_failed r.datagram.route r.datagram.octets) ∷ [])) same
        (record { along = (s, tt, (s, tt, safe_of first (turns ++ asking ∷ []) new w _ h)); good = h })

  asked_ahead : (barred : Option Barred) (turn : Turn) (change : Option Change) (new : ServerValue) → Takes server (record { turn = turn; change = change; barred = barred }) new → stores (record { turn = turn; change = change; barred = barred }) w ≡ [] → (name : NameValue)
      → asked_for turn ≡ Some name → ¬ IsAbout name w.replies → Goes first (turns ++ turn ∷ []) new w p (on_port (receive_in barred turn) ∷ map on_port (sends_of (reply_in turn)))
  asked_ahead barred is_empty change new taken none name asks not = absurd cc
  asked_ahead barred (is_lost now from octets) change new taken none name asks not = absurd cc
  asked_ahead barred (is_taken now from octets None) change new taken none name asks not = absurd cc
  asked_ahead None (is_taken now from octets (Some reply)) change new taken none name asks not = answer_goes None change new now from octets reply taken none name asks not from octets
  asked_ahead (Some b) (is_taken now from octets (Some reply)) change new taken none name asks not = answer_goes (Some b) change new now from octets reply taken none name asks not b.from b.octets

  asked_lost : (barred : Option Barred) (turn : Turn) (change : Option Change) (new : ServerValue) (lost : ReplyValue) → Takes server (record { turn = turn; change = change; barred = barred }) new → stores (record { turn = turn; change = change; barred = barred }) w ≡ [] → (name : NameValue)
      → asked_for turn ≡ Some name → ¬ IsAbout name w.replies → reply_in turn ≡ lost ∷ []
      → Goes first (turns ++ turn ∷ []) new w p (on_port (receive_in barred turn) ∷ on_port (send_failed lost.datagram.route lost.datagram.octets) ∷ [])
  asked_lost barred is_empty change new lost taken none name asks not one = absurd cc
  asked_lost barred (is_lost now from octets) change new lost taken none name asks not one = absurd cc
  asked_lost barred (is_taken now from octets None) change new lost taken none name asks not one = absurd cc
  asked_lost None (is_taken now from octets (Some reply)) change new lost taken none name asks not one = answer_lost None change new now from octets reply taken none name asks not from octets lost one
  asked_lost (Some b) (is_taken now from octets (Some reply)) change new lost taken none name asks not one = answer_lost (Some b) change new now from octets reply taken none name asks not b.from b.octets lost one

  -- what a turn takes, by whether its reply goes ahead
  module _ (t : Took) (new : ServerValue) (taken : Takes server t new) where
    abbrev Then : WaitingValue → List DeviceCall → Type 0
    Then v calls = Goes first (turns ++ t.turn ∷ []) new v p calls

    received_only : stores t w ≡ [] → taking t w ≡ on_port (receive_in t.barred t.turn) ∷ []
    received_only none = ap (λ (cs : List StoreCall). on_port (receive_in t.barred t.turn) ∷ map on_store cs) none

    -- nothing waits
    module _ (none : stores t w ≡ []) (clear : IsClear w) where
      queued : behind (reply_in t.turn) (behind_it t w) ≡ record w { replies = reply_in t.turn }
      queued = ap (λ (v : WaitingValue). behind (reply_in t.turn) v) (behind_same t w none) ∙ ap (λ (rs : List ReplyValue). record w { replies = rs ++ reply_in t.turn }) (ap (λ (v : WaitingValue). v.replies) clear)

      emptied : dropped (behind (reply_in t.turn) (behind_it t w)) ≡ behind_it t w
      emptied = ap dropped queued ∙ (ap (λ (rs : List ReplyValue). record w { replies = rs }) (sym (ap (λ (v : WaitingValue). v.replies) clear)) ∙ sym (behind_same t w none))

      no_more : (behind (reply_in t.turn) (behind_it t w)).unsynced ≡ None
      no_more = ap (λ (v : WaitingValue). v.unsynced) queued ∙ ap (λ (v : WaitingValue). v.unsynced) clear

      clear_ahead : Then (with_reply true t w) (taking t w ++ map on_port (sends_of (reply_in t.turn)))
      clear_ahead =
          let turns_then = turns ++ t.turn ∷ [] in
          let queue = behind (reply_in t.turn) (behind_it t w) in
          counted_goes first turns_then new (behind_it t w) p (taking t w ++ map on_port (sends_of (reply_in t.turn)))
          (subst (λ (v : WaitingValue). Then v (taking t w ++ map on_port (sends_of (reply_in t.turn)))) emptied
          (and_then first turns_then new new queue (dropped queue) p (taking t w) (map on_port (sends_of (reply_in t.turn))) (took first t turns server new w p taken g)
          (λ h. sent_at_once first turns_then new queue (reply_in t.turn) _ (ap (λ (v : WaitingValue). v.replies) queued) no_more h)))

      clear_lost : (lost : ReplyValue) → reply_in t.turn ≡ lost ∷ [] → Then (with_reply true t w) (taking t w ++ on_port (send_failed lost.datagram.route lost.datagram.octets) ∷ [])
      clear_lost lost one =
          let turns_then = turns ++ t.turn ∷ [] in
          let queue = behind (reply_in t.turn) (behind_it t w) in
          let calls = on_port (send_failed lost.datagram.route lost.datagram.octets) ∷ [] in
          counted_goes first turns_then new (behind_it t w) p (taking t w ++ calls)
          (subst (λ (v : WaitingValue). Then v (taking t w ++ calls)) emptied
          (and_then first turns_then new new queue (dropped queue) p (taking t w) calls (took first t turns server new w p taken g)
          (λ h. lost_at_once first turns_then new queue lost _ (ap (λ (v : WaitingValue). v.replies) queued ∙ one) no_more h)))

    -- or a query is answered
    counted_ahead : (none : stores t w ≡ []) (calls : List DeviceCall) → Then w (on_port (receive_in t.barred t.turn) ∷ calls) → Then (with_reply true t w) (taking t w ++ calls)
    counted_ahead none calls a =
        subst (λ (cs : List DeviceCall). Then (with_reply true t w) (cs ++ calls)) (sym (received_only none))
        (subst (λ (v : WaitingValue). Then (counted v) (on_port (receive_in t.barred t.turn) ∷ calls)) (sym (behind_same t w none)) (counted_goes first (turns ++ t.turn ∷ []) new w p (on_port (receive_in t.barred t.turn) ∷ calls) a))

    ahead_goes : stores t w ≡ [] → RestsOnNothing t.turn w → Then (with_reply true t w) (taking t w ++ map on_port (sends_of (reply_in t.turn)))
    ahead_goes none (all_stands clear) = clear_ahead none clear
    ahead_goes none (of_no_change name asks not) = counted_ahead none (map on_port (sends_of (reply_in t.turn))) (asked_ahead t.barred t.turn t.change new taken none name asks not)

    pub headed : (ahead : Bool) → IsAhead t w ahead → Then (with_reply ahead t w) (first_calls ahead t w)
    headed _ (goes_ahead a) = ahead_goes a.0 a.1
    headed _ (waits not) =
        subst (Then (with_reply false t w)) (sym (append-nil (taking t w)))
        (counted_goes first (turns ++ t.turn ∷ []) new (behind (reply_in t.turn) (behind_it t w)) p (taking t w) (took first t turns server new w p taken g))

    pub ahead_lost : (lost : ReplyValue) → reply_in t.turn ≡ lost ∷ [] → stores t w ≡ [] → RestsOnNothing t.turn w → Then (with_reply true t w) (taking t w ++ on_port (send_failed lost.datagram.route lost.datagram.octets) ∷ [])
    ahead_lost lost one none (all_stands clear) = clear_lost none clear lost one
    ahead_lost lost one none (of_no_change name asks not) =
        counted_ahead none (on_port (send_failed lost.datagram.route lost.datagram.octets) ∷ []) (asked_lost t.barred t.turn t.change new lost taken none name asks not one)

  -- a turn that goes well
  pub passed : (life : ℕ) (t : Took) (ahead : Bool) (calls : List DeviceCall) (readings : List ℕ) (new : ServerValue) (waiting : WaitingValue) → Takes server t new → Passes life w t ahead calls readings waiting → Goes first (turns ++ t.turn ∷ []) new waiting p calls
  passed life t ahead _ _ new _ taken (still_waits is stays) = headed t new taken ahead is
  passed life t ahead _ _ new _ taken (all_leave is due now) =
      and_then first (turns ++ t.turn ∷ []) new new (with_reply ahead t w) _ p (first_calls ahead t w) _ (headed t new taken ahead is) (λ h. left first life now (turns ++ t.turn ∷ []) new (with_reply ahead t w) _ h)

  -- a turn in which the port fails
  pub port_failed : (life : ℕ) (t : Option Took) (calls : List DeviceCall) (readings : List ℕ) (new : ServerValue) (waiting : WaitingValue) → TakesAny server t new → Fails life w t fault.Port calls readings waiting
      → Goes first (turns ++ turn_of t) new waiting p calls
  port_failed life _ _ _ new _ taken receive_fails =
      let s = safe_of first turns server w p g in
      subst (λ (ts : List Turn). Goes first ts new w p (on_port receive_failed ∷ [])) (sym (append-nil turns))
      (subst (λ (s : ServerValue). Goes first turns s w p (on_port receive_failed ∷ [])) (sym taken) (record { along = (s, tt, s); good = g }))
  port_failed life _ _ _ new _ taken (leaving_fails t ahead why calls readings waiting is due (send_fails now before lost rest split)) =
      and_then first (turns ++ t.turn ∷ []) new new (with_reply ahead t w) _ p (first_calls ahead t w) _ (headed t new taken ahead is) (λ h. part_left first life now (turns ++ t.turn ∷ []) new (with_reply ahead t w) before lost rest _ split h)
  port_failed life _ _ _ new _ taken (ahead_fails t lost goes one) = ahead_lost t new taken lost one goes.0 goes.1

  -- a turn in which the store fails
  pub store_failed : (life : ℕ) (t : Option Took) (calls : List DeviceCall) (readings : List ℕ) (new : ServerValue) (waiting : WaitingValue) → TakesAny server t new → Fails life w t fault.Store calls readings waiting → Along first (turns ++ turn_of t) p calls
  store_failed life _ _ _ new _ taken (reaching_fails now from octets calls past fails) =
      along_more first turns [] (on_port (came from octets) ∷ map on_store calls) p
      (safe_of first turns server w p g, tt, not_laid first turns server w p (Reached now) (λ leases. refl) (λ leases. tt) g calls fails)
  store_failed life _ _ _ new _ taken (append_fails turn change) =
      let lines = flat_map lay_down (reached w.durable (moments_in turn)) in
      let a = came_to first None turn turns server w p g in
      subst (λ (cs : List DeviceCall). Along first (turns ++ turn ∷ []) p (on_port (receive_in None turn) ∷ cs)) (sym (map-append on_store lines (append_failed change ∷ [])))
      (along-append first (turns ++ turn ∷ []) (on_port (receive_in None turn) ∷ map on_store lines) (on_store (append_failed change) ∷ []) p (along_more first turns (turn ∷ []) (on_port (receive_in None turn) ∷ map on_store lines) p a.along)
      (maybe_changed first None turn turns server new (before_it turn w) (turn_onward server new turn taken.server) (turn_soon server new turn w taken.server g.soon) _ change taken a.good))
  store_failed life _ _ _ new _ taken (leaving_fails t ahead why calls readings waiting is due (sync_fails some)) =
      let a = headed t new taken ahead is in
      let s = safe_of first (turns ++ t.turn ∷ []) new (with_reply ahead t w) _ a.good in
      along-append first (turns ++ t.turn ∷ []) (first_calls ahead t w) (on_store sync_failed ∷ []) p a.along (s, tt, s)

  -- a line of both clocks becomes durable
  pub looked_so : (day at : ℕ) → IsClear w → w.durable ≤ at → Goes first (turns ++ []) server (none_waits at) p (map on_store (lay_down (Looked day at)))
  looked_so day at clear onward =
      let cleared : laid_down (Looked day at) w ≡ none_waits at = ap (λ (rs : List ReplyValue). record { replies = rs; durable = max w.durable at; unsynced = None }) (ap (λ (v : WaitingValue). v.replies) clear) ∙ ap none_waits (greater w.durable at onward) in
      subst (λ (ts : List Turn). Goes first ts server (none_waits at) p (map on_store (lay_down (Looked day at)))) (sym (append-nil turns))
      (subst (λ (v : WaitingValue). Goes first turns server v p (map on_store (lay_down (Looked day at)))) cleared (laid first turns server w p (Looked day at) (λ leases. refl) (λ leases. tt) g))
    where
      greater : (a b : ℕ) → a ≤ b → max a b ≡ b
      greater a b l = omega arith

  -- the store fails at that
  pub look_failed : (day at : ℕ) (calls : List StoreCall) → LineFails (Looked day at) calls → Along first (turns ++ []) p (map on_store calls)
  look_failed day at calls fails = along_more first turns [] (map on_store calls) p (not_laid first turns server w p (Looked day at) (λ leases. refl) (λ leases. tt) g calls fails)

  -- a new file is begun
  pub renewal_begun : (header : Header) → IsClear w → w.durable ≤ header.last → Goes first (turns ++ []) server w p (on_store (renewal_began header (begun_all header.last (live_rows server))) ∷ [])
  renewal_begun header clear onward =
      let rows = live_rows server in
      let time : durable_then w.durable w.unsynced ≤ header.last = subst (λ (v : WaitingValue). durable_then w.durable v.unsynced ≤ header.last) (sym clear) onward in
      let s = safe_of first turns server w p g in
      subst (λ (ts : List Turn). Goes first ts server w p (on_store (renewal_began header (begun_all header.last rows)) ∷ [])) (sym (append-nil turns))
      (record {
        along = (s, tt, s);
        good = record {
          run = g.run;
          leases = g.leases;
          stand = g.stand;
          sound = g.sound;
          replies = g.replies;
          all = g.all;
          times = g.times;
          soon = g.soon;
          drafted = (renewed_kept server (after_all p.kept.changes no_leases) header.last g.leases, stand_begun header.last rows no_leases, let l = last_from header.last (begun_all header.last rows) in omega (arith, l, time));
        };
      })

  -- it is gone on with
  pub renewal_on : Goes first (turns ++ []) server w p (on_store renewal_went_on ∷ [])
  renewal_on =
      let s = safe_of first turns server w p g in
      subst (λ (ts : List Turn). Goes first ts server w p (on_store renewal_went_on ∷ [])) (sym (append-nil turns)) (record { along = (s, tt, s); good = g })

  -- it takes the file's place
  in_its_place : (draft : Option Draft) → Drafted server (durable_then w.durable w.unsynced) draft → Good first turns server w (record { kept = put_in_place draft p.kept; last = last_drafted draft p.last; gone = p.gone })
  in_its_place None drafted = g
  in_its_place (Some draft) drafted = durable_good first turns server w (record { kept = kept_all draft.changes; last = draft.last; gone = p.gone }) g.run drafted.0 drafted.1 g.replies refl drafted.2 g.soon tt

  pub renewed_so : Goes first (turns ++ []) server w p (on_store renewed ∷ [])
  renewed_so =
      let h = in_its_place p.kept.draft g.drafted in
      subst (λ (ts : List Turn). Goes first ts server w p (on_store renewed ∷ [])) (sym (append-nil turns)) (record { along = (safe_of first turns server w p g, tt, safe_of first turns server w _ h); good = h })

-- what left at a call, and at those behind it
pub gone_on : (call : DeviceCall) (calls : List DeviceCall) (p : Past) → (by_call call p).gone ++ gone_in calls ≡ p.gone ++ gone_in (call ∷ calls)
gone_on (on_port nothing_came) calls p = refl
gone_on (on_port (came from octets)) calls p = refl
gone_on (on_port receive_failed) calls p = refl
gone_on (on_port (sent to octets)) calls p = append_assoc p.gone (record { route = to; octets = octets } ∷ []) (gone_in calls)
gone_on (on_port (send_failed to octets)) calls p = append_assoc p.gone (record { route = to; octets = octets } ∷ []) (gone_in calls)
gone_on (on_store call) calls p = refl

module _ (first : ServerValue) where
  pub stepped : (seen : Seen) (old new : Held) (turns : List Turn) (p : Past) → Steps old seen new → Good first turns old.server old.waiting p → Goes first (turns ++ turn_of seen.took) new.server new.waiting p seen.calls
  stepped _ old _ turns p (takes_turn life t ahead calls readings server waiting taken passes) g = passed first turns old.server old.waiting p g life t ahead calls readings server waiting taken passes
  stepped _ old _ turns p (port_fails life t calls readings server waiting taken fails) g = port_failed first turns old.server old.waiting p g life t calls readings server waiting taken fails
  stepped _ old _ turns p (looks day at clear onward) g = looked_so first turns old.server old.waiting p g day at clear onward
  stepped _ old _ turns p (begins_renewal header clear onward) g = renewal_begun first turns old.server old.waiting p g header clear onward
  stepped _ old _ turns p (goes_on_renewing clear) g = renewal_on first turns old.server old.waiting p g
  stepped _ old _ turns p (renews clear) g = renewed_so first turns old.server old.waiting p g

  pub ran : (seen : List Seen) (old new : Held) (turns : List Turn) (p : Past) → Chain Steps old seen new → Good first turns old.server old.waiting p → Goes first (turns ++ turns_in seen) new.server new.waiting p (calls_in seen)
  ran [] old new turns p chain g =
      subst (λ (ts : List Turn). Goes first ts new.server new.waiting p []) (sym (append-nil turns)) (subst (λ (h : Held). Goes first turns h.server h.waiting p []) (sym chain) (record { along = safe_of first turns old.server old.waiting p g; good = g }))
  ran (x ∷ xs) old new turns p chain g =
      let mid = chain.0 in
      subst (λ (ts : List Turn). Goes first ts new.server new.waiting p (x.calls ++ calls_in xs)) (append_assoc turns (turn_of x.took) (turns_in xs))
      (joined first (turns ++ turn_of x.took) (turns_in xs) mid.server new.server mid.waiting new.waiting p x.calls (calls_in xs) (stepped x old mid turns p chain.1 g) (λ h. ran xs mid new (turns ++ turn_of x.took) _ chain.2 h))

  -- ---- at a call of them

  safe_here : (calls : List DeviceCall) (turns : List Turn) (p : Past) → Along first turns p calls → Safe first turns p
  safe_here [] turns p a = a
  safe_here (call ∷ calls) turns p a = a.0

  -- a crash behind a call that is no failed renewal
  left_behind : (call : StoreCall) (calls : List StoreCall) (p : Past) (left : List Change) → May p (on_store call) → (m : MayLeaveAfter p.kept (call ∷ calls) left)
      → (n : MayLeaveAfter (after_call call p.kept) calls left) × (last_left (last_by call p.kept p.last) n ≡ last_left p.last m)
  left_behind call calls p left may (first_changes m) = (first_changes m, refl)
  left_behind call calls p left may (as_drafted [] draft e there is) = let same : call ≡ renewal_failed = cc in absurd (subst (λ (c : StoreCall). May p (on_store c)) same may)
  left_behind call calls p left may (as_drafted (b ∷ before) draft e there is) =
      let same : b ≡ call = cc in
      (as_drafted before draft (cc) (subst (λ (c : StoreCall). (after_calls before (after_call c p.kept)).draft ≡ Some draft) same there) is, refl)

  not_renewed : (before : List StoreCall) (call : StoreCall) → [] ≡ before ++ call ∷ [] → ⊥
  not_renewed [] call e = absurd cc
  not_renewed (b ∷ before) call e = absurd cc

  left_first : (turns : List Turn) (p : Past) (left : List Change) → Safe first turns p → (m : MayLeaveAfter p.kept [] left) → IsEarlier first turns p.gone (last_left p.last m) left
  left_first turns p left safe (first_changes m) = subst (IsEarlier first turns p.gone p.last) (sym m.left_is) (safe m.count m.at_least m.at_most)
  left_first turns p left safe (as_drafted before draft e there is) = absurd (not_renewed before renewal_failed e)

  pub crashed : (before behind : List DeviceCall) (turns : List Turn) (p : Past) (left : List Change) → Along first turns p (before ++ behind) → (m : MayLeaveAfter p.kept (stored_in before) left)
      → IsEarlier first turns (p.gone ++ gone_in before) (last_left p.last m) left
  crashed [] behind turns p left a m = subst (λ (ds : List DatagramValue). IsEarlier first turns ds (last_left p.last m) left) (sym (append-nil p.gone)) (left_first turns p left (safe_here behind turns p a) m)
  crashed (on_port nothing_came ∷ before) behind turns p left a m =
      subst (λ (ds : List DatagramValue). IsEarlier first turns ds (last_left p.last m) left) (gone_on (on_port nothing_came) before p) (crashed before behind turns p left a.2 m)
  crashed (on_port (came from octets) ∷ before) behind turns p left a m =
      subst (λ (ds : List DatagramValue). IsEarlier first turns ds (last_left p.last m) left) (gone_on (on_port (came from octets)) before p) (crashed before behind turns p left a.2 m)
  crashed (on_port receive_failed ∷ before) behind turns p left a m =
      subst (λ (ds : List DatagramValue). IsEarlier first turns ds (last_left p.last m) left) (gone_on (on_port receive_failed) before p) (crashed before behind turns p left a.2 m)
  crashed (on_port (sent to octets) ∷ before) behind turns p left a m =
      subst (λ (ds : List DatagramValue). IsEarlier first turns ds (last_left p.last m) left) (gone_on (on_port (sent to octets)) before p) (crashed before behind turns (by_call (on_port (sent to octets)) p) left a.2 m)
  crashed (on_port (send_failed to octets) ∷ before) behind turns p left a m =
      subst (λ (ds : List DatagramValue). IsEarlier first turns ds (last_left p.last m) left) (gone_on (on_port (send_failed to octets)) before p) (crashed before behind turns (by_call (on_port (send_failed to octets)) p) left a.2 m)
  crashed (on_store call ∷ before) behind turns p left a m =
      let n = left_behind call (stored_in before) p left a.1 m in
      subst (λ (l : ℕ). IsEarlier first turns (p.gone ++ gone_in before) l left) n.1 (crashed before behind turns (by_call (on_store call) p) left a.2 n.0)

  pub sent_durable : (before behind : List DeviceCall) (to : Route) (octets : List ℕ) (turns : List Turn) (p : Past) → Along first turns p (before ++ on_port (sent to octets) ∷ behind)
      → MayBeSent (after_calls (stored_in before) p.kept) octets
  sent_durable [] behind to octets turns p a = a.1
  sent_durable (on_port nothing_came ∷ before) behind to octets turns p a = sent_durable before behind to octets turns p a.2
  sent_durable (on_port (came from other) ∷ before) behind to octets turns p a = sent_durable before behind to octets turns p a.2
  sent_durable (on_port receive_failed ∷ before) behind to octets turns p a = sent_durable before behind to octets turns p a.2
  sent_durable (on_port (sent one other) ∷ before) behind to octets turns p a = sent_durable before behind to octets turns (by_call (on_port (sent one other)) p) a.2
  sent_durable (on_port (send_failed one other) ∷ before) behind to octets turns p a = sent_durable before behind to octets turns (by_call (on_port (send_failed one other)) p) a.2
  sent_durable (on_store call ∷ before) behind to octets turns p a = sent_durable before behind to octets turns (by_call (on_store call) p) a.2
