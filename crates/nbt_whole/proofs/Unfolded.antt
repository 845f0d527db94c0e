-- A server that stays up and is watched is at work with its devices, whichever way it ends.
use Rattle.std.proofs.Common.{◌≡◌, ℕ, List, Option, Some, None, refl, sym, subst, inl, inr}
use Rattle.std.proofs.lemmas.Option.{same_Some}
use Rattle.nbt_log.specs.declared.entry.Entry.{Entry}
use Rattle.nbt_port.specs.PortCalls.{PortCall}
use Rattle.nbt_port.specs.Numbers.{forever}
use Rattle.nbt_port.specs.Staying.{StaysUntil, EndsEarly}
use Rattle.nbt_port.specs.declared.fault.Fault.{Fault}
use Rattle.nbt_port.specs.declared.fault.Fault.TheVariants as why
use Rattle.nbt_front.specs.FrontPort.{Fronted}
use Rattle.nbt_store.specs.Calls.{StoreCall}
use Rattle.nbt_store.specs.declared.header.Header.{Header}
use Rattle.nbt_server.specs.Serving.{ServerValue}
use Rattle.nbt_serve.specs.Looking as looking
use Rattle.nbt_serve.specs.Looking.{Desk, LooksAfter}
use Rattle.nbt_serve.specs.Runs.{live_rows}
use Rattle.nbt_serve.specs.Sharing.{ShareValue}
use Rattle.nbt_serve.specs.Turning.{Keeping}
use Rattle.nbt_serve.specs.declared.fault.KeepFault.{KeepFault}
use Rattle.nbt_serve.specs.declared.fault.KeepFault.TheVariants as fault
use Rattle.nbt_nbns.specs.Renewing.{RenewsPort, RenewsFront, stays, puts, can_not, RenewsOn}
use Rattle.nbt_nbns.specs.Staying.{Staying, keeping_of, desk_of, ByState, BreaksStaying, TellsAfter, Shows, Watches, WatchesLast, StoreFails, in_turn, after_turn, CutsStaying}
use Rattle.nbt_nbns.specs.Teller.{Sight}
use Rattle.nbt_nbns.specs.declared.staying.Shown.{Shown}
use Rattle.nbt_nbns.specs.declared.state.State.{State}
use Rattle.nbt_net.specs.BareWorking as bare
use Rattle.nbt_net.specs.BareWorking.{Bare, IsBareAtWork, BareWorks}
use Rattle.nbt_net.specs.Working as work
use Rattle.nbt_net.specs.Working.{HaveAnyPair, IsAtWork, Works, StopsWork, HasWorked, PutsFront}
use Rattle.nbt_net.proofs.Staying.{IsOverall, stays_until, ends_early}
use Rattle.nbt_whole.specs.Nbns.{bare_of}

-- ---- a state neither comes nor goes

pub by_none : {S : Type 0} (without : Type 0) (within : State S → State S → Type 0) (old new : Option (State S)) → ByState without within old new → old ≡ None → without × (new ≡ None)
by_none without within None None h is = (h, refl)
by_none without within None (Some t) h is = absurd h
by_none without within (Some s) new h is = absurd cc

pub record StillThere {S : Type 0} (within : State S → State S → Type 0) (s : State S) (new : Option (State S)) : Type 0 where
  pub state : State S
  pub there : new ≡ Some state
  pub holds : within s state

pub by_some : {S : Type 0} (without : Type 0) (within : State S → State S → Type 0) (old new : Option (State S)) (s : State S) → ByState without within old new → old ≡ Some s → StillThere within s new
by_some without within None new s h is = absurd cc
by_some without within (Some x) None s h is = absurd h
by_some {S} without within (Some x) (Some t) s h is = record { state = t; there = refl; holds = subst (λ (y : State S). within y t) (same_Some x s is) h }

-- ---- one thing after another

module _ {P C : Type 0} (does : P → PortCall → P → Type 0) (changes : P → P → Type 0) (tells : C → ℕ → C → Type 0) where
  pub bare_on : (old mid new : Bare P C) → IsBareAtWork does changes tells old mid → IsBareAtWork does changes tells mid new → IsBareAtWork does changes tells old new
  bare_on old mid _ front bare.begins = front
  bare_on old mid _ front (bare.goes_on between new back works) = bare.goes_on between new (bare_on old mid between front back) works

  pub bare_once : (old new : Bare P C) → BareWorks does changes tells old new → IsBareAtWork does changes tells old new
  bare_once old new works = bare.goes_on old new bare.begins works

module _ {P S C D : Type 0} (does : P → PortCall → P → Type 0) (changes : P → P → Type 0) (keeps : S → StoreCall → S → Type 0) (tells : C → ℕ → C → Type 0) (days : D → ℕ → D → Type 0) (own : Header → Type 0) where
  pub kept_on : (old mid new : Keeping P S C) → IsAtWork does changes keeps tells days own old mid → IsAtWork does changes keeps tells days own mid new → IsAtWork does changes keeps tells days own old new
  kept_on old mid _ front work.begins = front
  kept_on old mid _ front (work.goes_on between new back works) = work.goes_on between new (kept_on old mid between front back) works

  pub kept_once : (old new : Keeping P S C) → Works does changes keeps tells days own old new → IsAtWork does changes keeps tells days own old new
  kept_once old new works = work.goes_on old new work.begins works

-- a look leaves a header of its own
looks_own : {S D : Type 0} (keeps : S → StoreCall → S → Type 0) (days : D → ℕ → D → Type 0) (own : Header → Type 0) → HaveAnyPair own → (server : ServerValue) (at : ℕ) (old new : Desk S D) → LooksAfter keeps days server at old new → own old.header → own new.header
looks_own keeps days own any_pair server at old _ (looking.replies_wait some) of_own = of_own
looks_own keeps days own any_pair server at old _ (looking.goes_back early) of_own = of_own
looks_own keeps days own any_pair server at old _ (looking.stays time day clear late told due) of_own = of_own
looks_own keeps days own any_pair server at old _ (looking.has_no_room time day clear late told) of_own = of_own
looks_own keeps days own any_pair server at old _ (looking.looked time day store clear late told due did) of_own = any_pair old.header at time of_own
looks_own keeps days own any_pair server at old _ (looking.begun time day mid store clear late told due did began) of_own = any_pair old.header at time of_own
looks_own keeps days own any_pair server at old _ (looking.went_on time day store clear late told due did) of_own = of_own
looks_own keeps days own any_pair server at old _ (looking.written time day store clear late told due did) of_own = of_own

module _ {Q S C D V : Type 0} (does : Fronted Q → PortCall → Fronted Q → Type 0) (failures : Fronted Q → ℕ) (keeps : S → StoreCall → S → Type 0) (tells : C → ℕ → C → Type 0) (days : D → ℕ → D → Type 0) (sees : Sight V) (notes : V → List (List ℕ) → V → Type 0) where
  abbrev pub At : Type 0
  At = Staying (Fronted Q) S C D V

  -- ---- without a state

  abbrev pub BareWork : Bare (Fronted Q) C → Bare (Fronted Q) C → Type 0
  BareWork old new = IsBareAtWork does PutsFront tells old new

  abbrev pub BareOver : At → At → Type 0
  BareOver old new = old.served.state ≡ None → BareWork (bare_of old.served) (bare_of new.served) × (new.served.state ≡ None)

  bare_joined : (old mid new : At) → BareOver old mid → BareOver mid new → BareOver old new
  bare_joined old mid new first second none =
      let early = first none in
      let late = second early.1 in
      (bare_on does PutsFront tells (bare_of old.served) (bare_of mid.served) (bare_of new.served) early.0 late.0, late.1)

  -- the moment after a turn is told by the clock, or is that of the turn
  bare_told : (here : Bare (Fronted Q) C) (state : Option (State S)) (entry : Option Entry) (last at : ℕ) (clock : C) → state ≡ None → TellsAfter tells state entry last at here.clock clock → BareWork here (record here { clock = clock })
  bare_told here None (Some entry) last at clock none told = subst (λ (c : C). BareWork here (record here { clock = c })) (sym told.1) bare.begins
  bare_told here None None last at clock none told = bare_once does PutsFront tells here (record here { clock = clock }) (bare.reads_clock at clock told)
  bare_told here (Some s) entry last at clock none told = absurd cc

  bare_shows : (old new : At) (shown : Shown) → Shows does failures keeps tells days sees old shown new → BareOver old new
  bare_shows old new shown s none =
      let turned = by_none _ _ old.served.state s.turned s.turn none in
      let seen = by_none _ _ s.turned new.served.state s.seen turned.1 in
      let mid : Bare (Fronted Q) C = record { port = new.served.port; clock = s.turn_clock; server = new.served.server } in (
        bare_on does PutsFront tells (bare_of old.served) mid (bare_of new.served)
            (bare_once does PutsFront tells (bare_of old.served) mid (bare.takes_turn shown.entry mid turned.0.0))
            (bare_told mid s.turned shown.entry new.served.server.last shown.at new.served.clock turned.1 s.now_told),
        seen.1,
      )

  bare_watches : (old new : At) (shown : Shown) → Watches does failures keeps tells days sees old shown new → BareOver old new
  bare_watches old new shown w none =
      let shows = bare_shows old (record new { served = record new.served { state = w.mid } }) shown w.shows none in
      (shows.0, (by_none _ _ w.mid new.served.state w.looks shows.1).1)

  bare_breaks : (old new : At) (cause : KeepFault) → BreaksStaying does keeps tells cause old new → BareOver old new
  bare_breaks old new cause broke none =
      let breaks = by_none _ _ old.served.state new.served.state broke.0 none in
      (bare_once does PutsFront tells (bare_of old.served) (bare_of new.served) (bare.port_fails (bare_of new.served) breaks.0.0), breaks.1)

  -- another front may take the place
  bare_renewed : (old new : At) → RenewsFront RenewsPort notes tells old new → BareOver old new
  bare_renewed old _ stays none = (bare.begins, none)
  bare_renewed old _ (puts front at clock port watcher told is noted) none =
      let read : Bare (Fronted Q) C = record (bare_of old.served) { clock = clock } in (
        bare.goes_on read (record read { port = port }) (bare_once does PutsFront tells (bare_of old.served) read (bare.reads_clock at clock told)) (bare.port_changes port (front, live_rows old.served.server, at, is)),
        none,
      )
  bare_renewed old _ (can_not at clock told) none = (bare_once does PutsFront tells (bare_of old.served) (record (bare_of old.served) { clock = clock }) (bare.reads_clock at clock told), none)

  bare_overall : (until : Option ℕ) → IsOverall (RenewsOn does failures RenewsPort keeps tells days sees notes until) (BreaksStaying does keeps tells fault.Port) BareOver
  bare_overall until = record {
    none = λ here none. (bare.begins, none);
    both = bare_joined;
    of_turn = λ old new shown turn. bare_joined old turn.0 new (bare_watches old turn.0 shown turn.1.0) (bare_renewed turn.0 new turn.2);
    of_break = λ old new broke. bare_breaks old new fault.Port broke;
  }

  pub bare_stayed : (until : Option ℕ) (old new : At) → StaysUntil (RenewsOn does failures RenewsPort keeps tells days sees notes until) (BreaksStaying does keeps tells fault.Port) (WatchesLast does failures keeps tells days sees until) forever old new → BareOver old new
  bare_stayed until old new stayed = stays_until (RenewsOn does failures RenewsPort keeps tells days sees notes until) (BreaksStaying does keeps tells fault.Port) BareOver (bare_overall until) BareOver (λ old new over. over) (WatchesLast does failures keeps tells days sees until) forever old new
      (λ mid so_far last. bare_joined old mid new so_far (bare_watches mid new last.0 last.1)) stayed

  bare_cut : (cause : Fault) (old new : At) → CutsStaying does failures keeps tells days sees cause old new → BareOver old new
  bare_cut why.Store old new (in_turn broke) none = bare_breaks old new fault.Store broke none
  bare_cut why.Store old new (after_turn shown mid shows fails) none =
      let early = bare_shows old (record new { served = record new.served { state = mid } }) shown shows none in
      absurd ((by_none _ _ mid new.served.state fails early.1).0)
  bare_cut why.NoPort old new cut none = absurd cut
  bare_cut why.NoClock old new cut none = absurd cut
  bare_cut why.Device old new cut none = absurd cut
  bare_cut why.Output old new cut none = absurd cut
  bare_cut why.Memory old new cut none = absurd cut

  pub bare_ended : (until : Option ℕ) (cause : Fault) (old new : At) → EndsEarly (RenewsOn does failures RenewsPort keeps tells days sees notes until) (BreaksStaying does keeps tells fault.Port) (CutsStaying does failures keeps tells days sees) forever cause old new → BareOver old new
  bare_ended until cause old new ended = ends_early (RenewsOn does failures RenewsPort keeps tells days sees notes until) (BreaksStaying does keeps tells fault.Port) BareOver (bare_overall until) BareOver (λ old new over. over) (CutsStaying does failures keeps tells days sees) forever cause old new
      (λ cause mid so_far cut. bare_joined old mid new so_far (bare_cut cause mid new cut)) ended

  -- ---- with a state

  -- with headers of its own
  module _ (own : Header → Type 0) (any_pair : HaveAnyPair own) where
    abbrev pub Work : Keeping (Fronted Q) S C → Keeping (Fronted Q) S C → Type 0
    Work old new = IsAtWork does PutsFront keeps tells days own old new

    -- A server with a state went on, and with which state, whose header is one of its own.
    pub record Went (old new : At) (s : State S) : Type 0 where
      pub state : State S
      pub there : new.served.state ≡ Some state
      pub went : Work (keeping_of old.served s) (keeping_of new.served state)
      pub owned : own state.header

    abbrev pub Over : At → At → Type 0
    Over old new = (s : State S) → old.served.state ≡ Some s → own s.header → Went old new s

    -- the same, whichever way it ended
    pub record Ended (old new : At) (s : State S) : Type 0 where
      pub state : State S
      pub there : new.served.state ≡ Some state
      pub worked : HasWorked does PutsFront keeps tells days own (keeping_of old.served s) (keeping_of new.served state)

    abbrev pub Finished : At → At → Type 0
    Finished old new = (s : State S) → old.served.state ≡ Some s → own s.header → Ended old new s

    joined : (old mid new : At) → Over old mid → Over mid new → Over old new
    joined old mid new first second s is of_own =
        let early = first s is of_own in
        let late = second early.state early.there early.owned in
        record { state = late.state; there = late.there; went = kept_on does PutsFront keeps tells days own (keeping_of old.served s) (keeping_of mid.served early.state) (keeping_of new.served late.state) early.went late.went; owned = late.owned }

    told_then : (here : Keeping (Fronted Q) S C) (state : Option (State S)) (s : State S) (entry : Option Entry) (last at : ℕ) (clock : C) → state ≡ Some s → TellsAfter tells state entry last at here.clock clock → Work here (record here { clock = clock })
    told_then here None s entry last at clock is told = absurd cc
    told_then here (Some t) s entry last at clock is told = kept_once does PutsFront keeps tells days own here (record here { clock = clock }) (work.reads_clock at clock told)

    shown_so : (old new : At) (shown : Shown) → Shows does failures keeps tells days sees old shown new → Over old new
    shown_so old new shown w s is of_own =
        let turned = by_some _ _ old.served.state w.turned s w.turn is in
        let seen = by_some _ _ w.turned new.served.state turned.state w.seen turned.there in
        let mid : Keeping (Fronted Q) S C = record (keeping_of new.served turned.state) { clock = w.turn_clock } in
        record {
          state = seen.state;
          there = seen.there;
          went = subst (λ (t : State S). Work (keeping_of old.served s) (keeping_of new.served t)) (sym seen.holds.1)
              (kept_on does PutsFront keeps tells days own (keeping_of old.served s) mid (keeping_of new.served turned.state)
              (kept_once does PutsFront keeps tells days own (keeping_of old.served s) mid (work.takes_turn shown.entry w.sent mid turned.holds.0))
              (told_then mid w.turned turned.state shown.entry new.served.server.last shown.at new.served.clock turned.there w.now_told));
          owned = subst (λ (t : State S). own t.header) (sym seen.holds.1) (subst (λ (t : State S). own t.header) (sym turned.holds.1) of_own);
        }

    watched_so : (old new : At) (shown : Shown) → Watches does failures keeps tells days sees old shown new → Over old new
    watched_so old new shown w s is of_own =
        let shows = shown_so old (record new { served = record new.served { state = w.mid } }) shown w.shows s is of_own in
        let looked = by_some _ _ w.mid new.served.state shows.state w.looks shows.there in
        let mid : Keeping (Fronted Q) S C = keeping_of new.served shows.state in
        let end : Keeping (Fronted Q) S C = record mid { store = looked.state.store; waiting = looked.state.waiting } in
        record {
          state = looked.state;
          there = looked.there;
          went = subst (λ (x : ShareValue). Work (keeping_of old.served s) (record (keeping_of new.served looked.state) { share = x })) (sym looked.holds.1)
              (work.goes_on mid end shows.went (work.looks shown.at old.day shows.state.header (desk_of looked.state new.day) shows.owned looked.holds.0));
          owned = looks_own keeps days own any_pair new.served.server shown.at (desk_of shows.state old.day) (desk_of looked.state new.day) looked.holds.0 shows.owned;
        }

    broke_so : (old new : At) → BreaksStaying does keeps tells fault.Port old new → Over old new
    broke_so old new broke s is of_own =
        let b = by_some _ _ old.served.state new.served.state s broke.0 is in
        record { state = b.state; there = b.there; went = kept_once does PutsFront keeps tells days own (keeping_of old.served s) (keeping_of new.served b.state) (work.port_fails (keeping_of new.served b.state) b.holds.0); owned = subst (λ (t : State S). own t.header) (sym b.holds.1) of_own }

    renewed_so : (old new : At) → RenewsFront RenewsPort notes tells old new → Over old new
    renewed_so old _ stays s is of_own = record { state = s; there = is; went = work.begins; owned = of_own }
    renewed_so old _ (puts front at clock port watcher told put noted) s is of_own =
        let read : Keeping (Fronted Q) S C = record (keeping_of old.served s) { clock = clock } in
        record {
          state = s;
          there = is;
          went = work.goes_on read (record read { port = port }) (kept_once does PutsFront keeps tells days own (keeping_of old.served s) read (work.reads_clock at clock told)) (work.port_changes port (front, live_rows old.served.server, at, put));
          owned = of_own;
        }
    renewed_so old _ (can_not at clock told) s is of_own =
        record { state = s; there = is; went = kept_once does PutsFront keeps tells days own (keeping_of old.served s) (record (keeping_of old.served s) { clock = clock }) (work.reads_clock at clock told); owned = of_own }

    overall : (until : Option ℕ) → IsOverall (RenewsOn does failures RenewsPort keeps tells days sees notes until) (BreaksStaying does keeps tells fault.Port) Over
    overall until = record {
      none = λ here s is of_own. record { state = s; there = is; went = work.begins; owned = of_own };
      both = joined;
      of_turn = λ old new shown turn. joined old turn.0 new (watched_so old turn.0 shown turn.1.0) (renewed_so turn.0 new turn.2);
      of_break = λ old new broke. broke_so old new broke;
    }

    finished : (old new : At) → Over old new → Finished old new
    finished old new over s is of_own = let w = over s is of_own in record { state = w.state; there = w.there; worked = inl w.went }

    pub stayed : (until : Option ℕ) (old new : At) → StaysUntil (RenewsOn does failures RenewsPort keeps tells days sees notes until) (BreaksStaying does keeps tells fault.Port) (WatchesLast does failures keeps tells days sees until) forever old new → Finished old new
    stayed until old new up = stays_until (RenewsOn does failures RenewsPort keeps tells days sees notes until) (BreaksStaying does keeps tells fault.Port) Over (overall until) Finished finished (WatchesLast does failures keeps tells days sees until) forever old new
        (λ mid so_far last. finished old new (joined old mid new so_far (watched_so mid new last.0 last.1))) up

    -- the store fails, in a turn or as the file is looked after
    store_failed : (old mid new : At) → Over old mid → StoreFails does failures keeps tells days sees mid new → Finished old new
    store_failed old mid new so_far (in_turn broke) s is of_own =
        let early = so_far s is of_own in
        let b = by_some _ _ mid.served.state new.served.state early.state broke.0 early.there in
        record { state = b.state; there = b.there; worked = inr (keeping_of mid.served early.state, early.went, work.in_turn (keeping_of new.served b.state) b.holds.0) }
    store_failed old mid new so_far (after_turn shown between shows fails) s is of_own =
        let seen = joined old mid (record new { served = record new.served { state = between } }) so_far (shown_so mid (record new { served = record new.served { state = between } }) shown shows) s is of_own in
        let looked = by_some _ _ between new.served.state seen.state fails seen.there in
        let here : Keeping (Fronted Q) S C = keeping_of new.served seen.state in
        record {
          state = looked.state;
          there = looked.there;
          worked = inr (
            here,
            seen.went,
            subst (λ (x : ShareValue). StopsWork does PutsFront keeps tells days own here (record (keeping_of new.served looked.state) { share = x })) (sym looked.holds.1)
                (work.at_look shown.at mid.day seen.state.header (desk_of looked.state new.day) looked.holds.0),
          );
        }

    cut_so : (cause : Fault) (old mid new : At) → Over old mid → CutsStaying does failures keeps tells days sees cause mid new → Finished old new
    cut_so why.Store old mid new so_far cut s is of_own = store_failed old mid new so_far cut s is of_own
    cut_so why.NoPort old mid new so_far cut s is of_own = absurd cut
    cut_so why.NoClock old mid new so_far cut s is of_own = absurd cut
    cut_so why.Device old mid new so_far cut s is of_own = absurd cut
    cut_so why.Output old mid new so_far cut s is of_own = absurd cut
    cut_so why.Memory old mid new so_far cut s is of_own = absurd cut

    pub ended_early : (until : Option ℕ) (cause : Fault) (old new : At) → EndsEarly (RenewsOn does failures RenewsPort keeps tells days sees notes until) (BreaksStaying does keeps tells fault.Port) (CutsStaying does failures keeps tells days sees) forever cause old new → Finished old new
    ended_early until cause old new ended = ends_early (RenewsOn does failures RenewsPort keeps tells days sees notes until) (BreaksStaying does keeps tells fault.Port) Over (overall until) Finished finished (CutsStaying does failures keeps tells days sees) forever cause old new
        (λ cause mid so_far cut. cut_so cause old mid new so_far cut) ended
