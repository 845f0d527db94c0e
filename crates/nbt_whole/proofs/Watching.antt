-- A server that stays up is watched, whichever way it ends.
use Rattle.std.proofs.Common.{◌≡◌, ◌<◌, ℕ, Bool, nat_lt, true, false, List, [], ◌∷◌, ◌++◌, length, map, filter, Option, Some, None, refl, sym, ap, subst, ◌∙◌, if◌then◌else◌, inl, inr, arith}
use Rattle.std.proofs.lemmas.Bool.{cases_Bool}
use Rattle.nbt_log.specs.declared.entry.Entry.{Entry}
use Rattle.nbt_port.specs.Clocks.{MachineTells}
use Rattle.nbt_port.specs.PortCalls.{PortCall, Chain}
use Rattle.nbt_port.specs.Numbers.{forever}
use Rattle.nbt_port.specs.Staying.{StaysUntil, EndsEarly}
use Rattle.nbt_port.specs.Udp.{PortsValue}
use Rattle.nbt_port.specs.declared.fault.Fault.{Fault}
use Rattle.nbt_port.specs.declared.fault.Fault.TheVariants as why
use Rattle.nbt_front.specs.FrontPort.{Fronted}
use Rattle.nbt_server.specs.Serving.{ServerValue}
use Rattle.nbt_store.specs.Calls.{StoreCall}
use Rattle.nbt_serve.specs.Serving as serving
use Rattle.nbt_serve.specs.Serving.{Turn, Turns, passes}
use Rattle.nbt_serve.specs.Turning.{Took, TakesAny}
use Rattle.nbt_serve.specs.Waiting.{ReplyValue}
use Rattle.nbt_serve.specs.declared.fault.KeepFault.{KeepFault}
use Rattle.nbt_serve.specs.declared.fault.KeepFault.TheVariants as fault
use Rattle.nbt_nbns.specs.Folders.{FolderValue}
use Rattle.nbt_nbns.specs.Journaling.{Journals}
use Rattle.nbt_nbns.specs.Places.{FileValue, Stays}
use Rattle.nbt_nbns.specs.Renewing.{NotesNames, RenewsPort, RenewsFront, stays, puts, can_not, RenewsOn}
use Rattle.nbt_nbns.specs.Running.{Nbns}
use Rattle.nbt_nbns.specs.Staying.{Staying, BreaksStaying, Shows, Watches, WatchesLast, StoreFails, in_turn, after_turn, CutsStaying}
use Rattle.nbt_nbns.specs.Teller.{Tells}
use Rattle.nbt_nbns.specs.declared.journal.Journal.{Journal}
use Rattle.nbt_nbns.specs.declared.staying.Shown.{Shown}
use Rattle.nbt_nbns.specs.declared.state.State.{State}
use Rattle.nbt_nbns.specs.declared.teller.Untold.{Untold}
use Rattle.nbt_net.proofs.Staying.{IsOverall, stays_until, ends_early}
use Rattle.nbt_whole.specs.Watched.{Watched, watched_of, Acts, goes_well, fails, Event, acted, was_shown, were_fixed, Happens, acts, sees, notes, had, told, IsToldInTurn, NbnsIsWatched}
use Rattle.nbt_whole.proofs.Showing.{chain_on, in_turn_on, each_on, shown_at_once, had_at_once, in_turn_at_once, entries_of, tells_in_turn, told_events, tells_chain}
use Rattle.nbt_whole.proofs.Unfolded.{by_none, StillThere, by_some}

-- a failure of a device shows nothing
broken_server : (turns : List Turn) (failure : serving.Failure) (old mid new : ServerValue) → length turns < 1 → Chain Turns old turns mid → serving.Fails mid failure new → Acts old None new
broken_server [] serving.of_receive old mid new fewer chain failed = fails serving.is_empty new (subst (λ (s : ServerValue). Turns old serving.is_empty s) (sym (failed ∙ chain)) passes)
broken_server [] (serving.of_send now from octets reply) old mid new fewer chain failed =
    fails (serving.is_taken now from octets (Some reply)) new (serving.takes now from octets (Some reply) new (subst (λ (s : ServerValue). serving.Fails s (serving.of_send now from octets reply) new) chain failed))
broken_server (turn ∷ turns) failure old mid new fewer chain failed = absurd (omega (arith, fewer))

broken_keeping : (old new : ServerValue) (took : Option Took) → TakesAny old took new → Acts old None new
broken_keeping old new None takes = fails serving.is_empty new (subst (λ (s : ServerValue). Turns old serving.is_empty s) (sym takes) passes)
broken_keeping old new (Some took) takes = fails took.turn new takes.server

module _ {C : Type 0} (does : Fronted PortsValue → PortCall → Fronted PortsValue → Type 0) (failures : Fronted PortsValue → ℕ) (keeps : FolderValue → StoreCall → FolderValue → Type 0) (tells : C → ℕ → C → Type 0) where
  -- ---- without a state

  -- what happened between two states of a server without a state
  abbrev pub Seen : Nbns C → Nbns C → Type 0
  Seen old new = NbnsIsWatched (watched_of old) (watched_of new)

  abbrev pub BareOver : Nbns C → Nbns C → Type 0
  BareOver old new = old.served.state ≡ None → Seen old new × (new.served.state ≡ None)

  seen_on : (old mid new : Nbns C) → Seen old mid → Seen mid new → Seen old new
  seen_on old mid new first second = record {
    events = first.events ++ second.events;
    happened = chain_on Happens first.events second.events (watched_of old) (watched_of mid) (watched_of new) first.happened second.happened;
    each_told = each_on first.events second.events first.each_told second.each_told;
    in_turn = in_turn_on first.events second.events [] [] [] first.in_turn second.in_turn;
  }

  bare_joined : (old mid new : Nbns C) → BareOver old mid → BareOver mid new → BareOver old new
  bare_joined old mid new first second none =
      let early = first none in
      let late = second early.1 in
      (seen_on old mid new early.0 late.0, late.1)

  nothing_seen : (old new : Nbns C) → watched_of new ≡ watched_of old → Seen old new
  nothing_seen old new same = record { events = []; happened = same; each_told = refl; in_turn = ([], refl, inl tt) }

  bare_shows : (old new : Nbns C) (shown : Shown) → Shows does failures keeps tells MachineTells (Journals MachineTells Stays Stays) old shown new → BareOver old new
  bare_shows old new shown s none =
      let turned = by_none _ _ old.served.state s.turned s.turn none in
      let seen = by_none _ _ s.turned new.served.state s.seen turned.1 in
      let mid : Watched = record (watched_of old) { server = new.served.server } in (
        record {
          events = acted shown.entry ∷ was_shown shown ∷ [];
          happened = (mid, acts shown.entry new.served.server (goes_well turned.0.0.turn shown.entry new.served.server turned.0.0.server turned.0.0.entry_is), (watched_of new, sees shown new.watcher new.text seen.0, refl));
          each_told = shown_at_once shown.entry ∙ sym (had_at_once shown.entry shown);
          in_turn = in_turn_at_once shown.entry shown refl;
        },
        seen.1,
      )

  bare_watches : (old new : Nbns C) (shown : Shown) → Watches does failures keeps tells MachineTells (Journals MachineTells Stays Stays) old shown new → BareOver old new
  bare_watches old new shown w none =
      let shows = bare_shows old (record new { served = record new.served { state = w.mid } }) shown w.shows none in
      (shows.0, (by_none _ _ w.mid new.served.state w.looks shows.1).1)

  bare_breaks : (old new : Nbns C) (cause : KeepFault) → BreaksStaying does keeps tells cause old new → BareOver old new
  bare_breaks old new cause broke none =
      let b = by_none _ _ old.served.state new.served.state broke.0 none in (
        record {
          events = acted None ∷ [];
          happened = (record (watched_of old) { server = new.served.server }, acts None new.served.server (broken_server b.0.0.turns b.0.0.failure old.served.server b.0.0.mid new.served.server b.0.0.fewer b.0.0.server b.0.0.fails), ap watched_of broke.1);
          each_told = refl;
          in_turn = ([], refl, inl tt);
        },
        b.1,
      )

  bare_renewed : (old new : Nbns C) → RenewsFront RenewsPort NotesNames tells old new → BareOver old new
  bare_renewed old _ stays none = (nothing_seen old old refl, none)
  bare_renewed old _ (puts front at clock port watcher told is noted) none = (
    record {
      events = were_fixed _ ∷ [];
      happened = (record (watched_of old) { journal = watcher }, notes _ watcher noted, refl);
      each_told = refl;
      in_turn = ([], refl, inl tt);
    },
    none,
  )
  bare_renewed old _ (can_not at clock told) none = (nothing_seen old (record old { served = record old.served { clock = clock } }) refl, none)

  bare_overall : (until : Option ℕ) → IsOverall (RenewsOn does failures RenewsPort keeps tells MachineTells (Journals MachineTells Stays Stays) NotesNames until) (BreaksStaying does keeps tells fault.Port) BareOver
  bare_overall until = record {
    none = λ here none. (nothing_seen here here refl, none);
    both = bare_joined;
    of_turn = λ old new shown turn. bare_joined old turn.0 new (bare_watches old turn.0 shown turn.1.0) (bare_renewed turn.0 new turn.2);
    of_break = λ old new broke. bare_breaks old new fault.Port broke;
  }

  pub bare_stayed : (until : Option ℕ) (old new : Nbns C) → StaysUntil (RenewsOn does failures RenewsPort keeps tells MachineTells (Journals MachineTells Stays Stays) NotesNames until) (BreaksStaying does keeps tells fault.Port) (WatchesLast does failures keeps tells MachineTells (Journals MachineTells Stays Stays) until) forever old new → BareOver old new
  bare_stayed until old new stayed = stays_until (RenewsOn does failures RenewsPort keeps tells MachineTells (Journals MachineTells Stays Stays) NotesNames until) (BreaksStaying does keeps tells fault.Port) BareOver (bare_overall until) BareOver (λ old new over. over) (WatchesLast does failures keeps tells MachineTells (Journals MachineTells Stays Stays) until) forever old new
      (λ mid so_far last. bare_joined old mid new so_far (bare_watches mid new last.0 last.1)) stayed

  bare_cut : (cause : Fault) (old new : Nbns C) → CutsStaying does failures keeps tells MachineTells (Journals MachineTells Stays Stays) cause old new → BareOver old new
  bare_cut why.Store old new (in_turn broke) none = bare_breaks old new fault.Store broke none
  bare_cut why.Store old new (after_turn shown mid shows fails_so) none =
      let early = bare_shows old (record new { served = record new.served { state = mid } }) shown shows none in
      absurd ((by_none _ _ mid new.served.state fails_so early.1).0)
  bare_cut why.NoPort old new cut none = absurd cut
  bare_cut why.NoClock old new cut none = absurd cut
  bare_cut why.Device old new cut none = absurd cut
  bare_cut why.Output old new cut none = absurd cut
  bare_cut why.Memory old new cut none = absurd cut

  pub bare_ended : (until : Option ℕ) (cause : Fault) (old new : Nbns C) → EndsEarly (RenewsOn does failures RenewsPort keeps tells MachineTells (Journals MachineTells Stays Stays) NotesNames until) (BreaksStaying does keeps tells fault.Port) (CutsStaying does failures keeps tells MachineTells (Journals MachineTells Stays Stays)) forever cause old new → BareOver old new
  bare_ended until cause old new ended = ends_early (RenewsOn does failures RenewsPort keeps tells MachineTells (Journals MachineTells Stays Stays) NotesNames until) (BreaksStaying does keeps tells fault.Port) BareOver (bare_overall until) BareOver (λ old new over. over) (CutsStaying does failures keeps tells MachineTells (Journals MachineTells Stays Stays)) forever cause old new
      (λ cause mid so_far cut. bare_joined old mid new so_far (bare_cut cause mid new cut)) ended

  -- ---- with a state

  -- What happened between two states of a server with a state: by the turns that weren't shown yet.
  pub record Went (old new : Nbns C) (s : State FolderValue) : Type 0 where
    pub state : State FolderValue
    pub there : new.served.state ≡ Some state
    pub events : List Event
    pub happened : Chain Happens (watched_of old) events (watched_of new)
    pub in_order : IsToldInTurn (entries_of s.teller) events (entries_of state.teller)

  abbrev pub Over : Nbns C → Nbns C → Type 0
  Over old new = (s : State FolderValue) → old.served.state ≡ Some s → Went old new s

  joined : (old mid new : Nbns C) → Over old mid → Over mid new → Over old new
  joined old mid new first second s is =
      let early = first s is in
      let late = second early.state early.there in
      record {
        state = late.state;
        there = late.there;
        events = early.events ++ late.events;
        happened = chain_on Happens early.events late.events (watched_of old) (watched_of mid) (watched_of new) early.happened late.happened;
        in_order = in_turn_on early.events late.events (entries_of s.teller) (entries_of early.state.teller) (entries_of late.state.teller) early.in_order late.in_order;
      }

  nothing_went : (old new : Nbns C) (s : State FolderValue) → watched_of new ≡ watched_of old → new.served.state ≡ Some s → Went old new s
  nothing_went old new s same there = record { state = s; there = there; events = []; happened = same; in_order = ([], refl, inl tt) }

  shows_so : (old new : Nbns C) (shown : Shown) → Shows does failures keeps tells MachineTells (Journals MachineTells Stays Stays) old shown new → Over old new
  shows_so old new shown w s is =
      let turned = by_some _ _ old.served.state w.turned s w.turn is in
      let seen = by_some _ _ w.turned new.served.state turned.state w.seen turned.there in
      let mid : Watched = record (watched_of old) { server = new.served.server } in
      let turn = turned.holds.0 in
      let tell = seen.holds.0 in
      record {
        state = seen.state;
        there = seen.there;
        events = acted shown.entry ∷ told_events new.served.server turned.state.waiting w.sent shown turned.state.teller;
        happened = (
          mid,
          acts shown.entry new.served.server (goes_well turn.took.turn shown.entry new.served.server turn.takes.server turn.logged),
          tells_chain new.served.server turned.state.waiting w.sent shown turned.state.teller _ _ _ tell,
        );
        in_order = subst (λ (x : List Untold). IsToldInTurn (entries_of x) (acted shown.entry ∷ told_events new.served.server turned.state.waiting w.sent shown turned.state.teller) (entries_of seen.state.teller)) (ap (λ (t : State FolderValue). t.teller) turned.holds.1)
            (tells_in_turn new.served.server turned.state.waiting w.sent shown turned.state.teller _ _ _ tell);
      }

  watched_so : (old new : Nbns C) (shown : Shown) → Watches does failures keeps tells MachineTells (Journals MachineTells Stays Stays) old shown new → Over old new
  watched_so old new shown w s is =
      let shows = shows_so old (record new { served = record new.served { state = w.mid } }) shown w.shows s is in
      let looked = by_some _ _ w.mid new.served.state shows.state w.looks shows.there in
      record {
        state = looked.state;
        there = looked.there;
        events = shows.events;
        happened = shows.happened;
        in_order = subst (λ (x : List Untold). IsToldInTurn (entries_of s.teller) shows.events (entries_of x)) (sym looked.holds.2) shows.in_order;
      }

  broke_so : (old new : Nbns C) (cause : KeepFault) → BreaksStaying does keeps tells cause old new → Over old new
  broke_so old new cause broke s is =
      let b = by_some _ _ old.served.state new.served.state s broke.0 is in
      record {
        state = b.state;
        there = b.there;
        events = acted None ∷ [];
        happened = (record (watched_of old) { server = new.served.server }, acts None new.served.server (broken_keeping old.served.server new.served.server b.holds.0.took b.holds.0.takes), ap watched_of broke.1);
        in_order = ([], ap (λ (t : State FolderValue). entries_of t.teller) (sym b.holds.1), inl tt);
      }

  renewed_so : (old new : Nbns C) → RenewsFront RenewsPort NotesNames tells old new → Over old new
  renewed_so old _ stays s is = nothing_went old old s refl is
  renewed_so old _ (puts front at clock port watcher told put noted) s is = record {
    state = s;
    there = is;
    events = were_fixed _ ∷ [];
    happened = (record (watched_of old) { journal = watcher }, notes _ watcher noted, refl);
    in_order = ([], refl, inl tt);
  }
  renewed_so old _ (can_not at clock told) s is = nothing_went old (record old { served = record old.served { clock = clock } }) s refl is

  overall : (until : Option ℕ) → IsOverall (RenewsOn does failures RenewsPort keeps tells MachineTells (Journals MachineTells Stays Stays) NotesNames until) (BreaksStaying does keeps tells fault.Port) Over
  overall until = record {
    none = λ here s is. nothing_went here here s refl is;
    both = joined;
    of_turn = λ old new shown turn. joined old turn.0 new (watched_so old turn.0 shown turn.1.0) (renewed_so turn.0 new turn.2);
    of_break = λ old new broke. broke_so old new fault.Port broke;
  }

  pub stayed : (until : Option ℕ) (old new : Nbns C) → StaysUntil (RenewsOn does failures RenewsPort keeps tells MachineTells (Journals MachineTells Stays Stays) NotesNames until) (BreaksStaying does keeps tells fault.Port) (WatchesLast does failures keeps tells MachineTells (Journals MachineTells Stays Stays) until) forever old new → Over old new
  stayed until old new up = stays_until (RenewsOn does failures RenewsPort keeps tells MachineTells (Journals MachineTells Stays Stays) NotesNames until) (BreaksStaying does keeps tells fault.Port) Over (overall until) Over (λ old new over. over) (WatchesLast does failures keeps tells MachineTells (Journals MachineTells Stays Stays) until) forever old new
      (λ mid so_far last. joined old mid new so_far (watched_so mid new last.0 last.1)) up

  -- the store fails, in a turn or as the file is looked after
  store_failed : (old new : Nbns C) → StoreFails does failures keeps tells MachineTells (Journals MachineTells Stays Stays) old new → Over old new
  store_failed old new (in_turn broke) s is = broke_so old new fault.Store broke s is
  store_failed old new (after_turn shown between shows fails_so) s is =
      let seen = shows_so old (record new { served = record new.served { state = between } }) shown shows s is in
      let looked = by_some _ _ between new.served.state seen.state fails_so seen.there in
      record {
        state = looked.state;
        there = looked.there;
        events = seen.events;
        happened = seen.happened;
        in_order = subst (λ (x : List Untold). IsToldInTurn (entries_of s.teller) seen.events (entries_of x)) (sym looked.holds.2) seen.in_order;
      }

  cut_so : (cause : Fault) (old new : Nbns C) → CutsStaying does failures keeps tells MachineTells (Journals MachineTells Stays Stays) cause old new → Over old new
  cut_so why.Store old new cut s is = store_failed old new cut s is
  cut_so why.NoPort old new cut s is = absurd cut
  cut_so why.NoClock old new cut s is = absurd cut
  cut_so why.Device old new cut s is = absurd cut
  cut_so why.Output old new cut s is = absurd cut
  cut_so why.Memory old new cut s is = absurd cut

  pub ended_early : (until : Option ℕ) (cause : Fault) (old new : Nbns C) → EndsEarly (RenewsOn does failures RenewsPort keeps tells MachineTells (Journals MachineTells Stays Stays) NotesNames until) (BreaksStaying does keeps tells fault.Port) (CutsStaying does failures keeps tells MachineTells (Journals MachineTells Stays Stays)) forever cause old new → Over old new
  ended_early until cause old new ended = ends_early (RenewsOn does failures RenewsPort keeps tells MachineTells (Journals MachineTells Stays Stays) NotesNames until) (BreaksStaying does keeps tells fault.Port) Over (overall until) Over (λ old new over. over) (CutsStaying does failures keeps tells MachineTells (Journals MachineTells Stays Stays)) forever cause old new
      (λ cause mid so_far cut. joined old mid new so_far (cut_so cause mid new cut)) ended
