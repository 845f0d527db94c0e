-- What the counts, the lists and the statistics say after any events.
use Rattle.std.proofs.Common.{◌≡◌, ℕ, Bool, true, false, List, [], ◌∷◌, ◌++◌, length, ◌==◌, if◌then◌else◌, Option, Some, None, IfSome, String, refl, sym, ap, subst, ◌∙◌, append-nil, append_assoc}
use Rattle.nbt_port.specs.PortCalls.{Chain}
use Rattle.nbt_lease.specs.Lease.{Rows}
use Rattle.nbt_log.specs.Drafts.{ListingValue, IsListing, DraftValue, new_draft, one_part_noted, one_part_listed, one_part_more, IsDraftText}
use Rattle.nbt_log.specs.Tallies.{counted}
use Rattle.nbt_log.specs.declared.entry.Entry.{Entry}
use Rattle.nbt_log.specs.declared.tally.Tally.{Tally}
use Rattle.nbt_nbns.specs.Journaling.{ListsIn, not_listed, listed, KeepsIn, not_kept, looked}
use Rattle.nbt_nbns.specs.Keeping.{KeeperValue, Keeps}
use Rattle.nbt_nbns.specs.Keeping as keep
use Rattle.nbt_nbns.specs.Listers.{ListerValue, ListsOn, next_draft}
use Rattle.nbt_nbns.specs.Listers as list
use Rattle.nbt_nbns.specs.Places.{FileValue, Stays}
use Rattle.nbt_nbns.specs.Running.{lister_of, keeper_of, place_of}
use Rattle.nbt_nbns.specs.declared.content.Content.{Content}
use Rattle.nbt_nbns.specs.declared.content.Content.TheVariants as content
use Rattle.nbt_nbns.specs.declared.journal.Journal.{Journal}
use Rattle.nbt_nbns.specs.declared.keeper.Kept.{Kept}
use Rattle.nbt_nbns.specs.declared.staying.Shown.{Shown}
use Rattle.nbt_whole.specs.Watched.{Watched, Event, acted, was_shown, were_fixed, Happens, acts, sees, notes, with_entry, told}
use Rattle.nbt_whole.specs.Said.{IsNew, WasOnce, leases_then, hosts_then, Lists, ReportsStats, listed_in, kept_in, outcomes_after, refusals_after, WhatIsWatchedIsSaid}
use Rattle.nbt_whole.proofs.Showing.{chain_on}

-- ---- the counts

entry_counted : (entry : Option Entry) (dropped : ℕ) (all : Tally) (others : List Entry) → outcomes_after (counted entry dropped all).outcomes others ≡ outcomes_after all.outcomes (with_entry entry others)
entry_counted None dropped all others = refl
entry_counted (Some entry) dropped all others = refl

refusal_counted_so : (entry : Option Entry) (dropped : ℕ) (all : Tally) (others : List Entry) → refusals_after (counted entry dropped all).refusals others ≡ refusals_after all.refusals (with_entry entry others)
refusal_counted_so None dropped all others = refl
refusal_counted_so (Some entry) dropped all others = refl

outcome_step : (old new : Watched) (event : Event) (events : List Event) → Happens old event new → outcomes_after new.journal.tally.outcomes (told events) ≡ outcomes_after old.journal.tally.outcomes (told (event ∷ events))
outcome_step old _ _ events (acts entry server does) = refl
outcome_step old _ _ events (sees shown journal text saw) = ap (λ (t : Tally). outcomes_after t.outcomes (told events)) saw.tally_is ∙ entry_counted shown.entry _ old.journal.tally (told events)
outcome_step old _ _ events (notes capitals journal noted) = ap (λ (j : Journal ℕ FileValue). outcomes_after j.tally.outcomes (told events)) noted

refusal_step : (old new : Watched) (event : Event) (events : List Event) → Happens old event new → refusals_after new.journal.tally.refusals (told events) ≡ refusals_after old.journal.tally.refusals (told (event ∷ events))
refusal_step old _ _ events (acts entry server does) = refl
refusal_step old _ _ events (sees shown journal text saw) = ap (λ (t : Tally). refusals_after t.refusals (told events)) saw.tally_is ∙ refusal_counted_so shown.entry _ old.journal.tally (told events)
refusal_step old _ _ events (notes capitals journal noted) = ap (λ (j : Journal ℕ FileValue). refusals_after j.tally.refusals (told events)) noted

outcomes_are : (events : List Event) (first last : Watched) → Chain Happens first events last → last.journal.tally.outcomes ≡ outcomes_after first.journal.tally.outcomes (told events)
outcomes_are [] first last same = ap (λ (w : Watched). w.journal.tally.outcomes) same
outcomes_are (event ∷ events) first last chain = outcomes_are events chain.0 last chain.2 ∙ outcome_step first chain.0 event events chain.1

refusals_are : (events : List Event) (first last : Watched) → Chain Happens first events last → last.journal.tally.refusals ≡ refusals_after first.journal.tally.refusals (told events)
refusals_are [] first last same = ap (λ (w : Watched). w.journal.tally.refusals) same
refusals_are (event ∷ events) first last chain = refusals_are events chain.0 last chain.2 ∙ refusal_step first chain.0 event events chain.1

-- ---- a draft stays that of its beginning

listed_part : (b : Bool) (draft : DraftValue) → ((if b then one_part_listed draft else draft).listing ≡ draft.listing) × ((if b then one_part_listed draft else draft).at ≡ draft.at) × ((if b then one_part_listed draft else draft).rows ≡ draft.rows)
listed_part true draft = (refl, refl, refl)
listed_part false draft = (refl, refl, refl)

abbrev pub IsOf : DraftValue → ListingValue → (at : ℕ) → Rows → Type 0
IsOf draft listing at rows = (draft.listing ≡ listing) × (draft.at ≡ at) × (draft.rows ≡ rows)

pub part_more : (draft : DraftValue) (listing : ListingValue) (at : ℕ) (rows : Rows) → IsOf draft listing at rows → IsOf (one_part_more draft) listing at rows
part_more draft listing at rows is =
    let same = listed_part ((one_part_noted draft).noted == length draft.rows) (one_part_noted draft) in
    (same.0 ∙ is.0, same.1 ∙ is.1, same.2 ∙ is.2)

pub text_of_draft : (draft : DraftValue) (listing : ListingValue) (at : ℕ) (rows : Rows) (text : List ℕ) → IsOf draft listing at rows → IsDraftText draft text → IsListing listing at rows text
text_of_draft draft listing at rows text is says =
    subst (λ (l : ListingValue). IsListing l at rows text) is.0 (subst (λ (m : ℕ). IsListing draft.listing m rows text) is.1 (subst (λ (r : Rows). IsListing draft.listing draft.at r text) is.2 says))

-- ---- what was once

module _ (first : Watched) where
  pub once_on : (Holds : Watched → Shown → Watched → Type 0) (events : List Event) (mid new : Watched) (event : Event) → Happens mid event new → WasOnce Holds first events mid → WasOnce Holds first (events ++ event ∷ []) new
  once_on Holds events mid new event happens once = record {
    before = once.before;
    shown = once.shown;
    after = once.after ++ event ∷ [];
    old = once.old;
    new = once.new;
    events_are = ap (λ (all : List Event). all ++ event ∷ []) once.events_are ∙ append_assoc once.before (was_shown once.shown ∷ once.after) (event ∷ []);
    came = once.came;
    saw = once.saw;
    went_on = chain_on Happens once.after (event ∷ []) once.new mid new once.went_on (new, happens, refl);
    holds = once.holds;
  }

  pub once_weaker : (Holds More : Watched → Shown → Watched → Type 0) (events : List Event) (last : Watched) → ((old new : Watched) (shown : Shown) → Holds old shown new → More old shown new) → WasOnce Holds first events last → WasOnce More first events last
  once_weaker Holds More events last weaker once = record {
    before = once.before;
    shown = once.shown;
    after = once.after;
    old = once.old;
    new = once.new;
    events_are = once.events_are;
    came = once.came;
    saw = once.saw;
    went_on = once.went_on;
    holds = weaker once.old once.new once.shown once.holds;
  }

  pub once_now : (Holds : Watched → Shown → Watched → Type 0) (events : List Event) (old new : Watched) (shown : Shown) → Chain Happens first events old → Happens old (was_shown shown) new → Holds old shown new → WasOnce Holds first (events ++ was_shown shown ∷ []) new
  once_now Holds events old new shown came saw holds = record { before = events; shown = shown; after = []; old = old; new = new; events_are = refl; came = came; saw = saw; went_on = refl; holds = holds }

  -- what holds at first, and after each event where it held before, holds in the end
  forward : (Inv : List Event → Watched → Type 0) → ((events : List Event) (old new : Watched) (event : Event) → Chain Happens first events old → Inv events old → Happens old event new → Inv (events ++ event ∷ []) new)
      → (so_far events : List Event) (mid last : Watched) → Chain Happens first so_far mid → Inv so_far mid → Chain Happens mid events last → Inv (so_far ++ events) last
  forward Inv step so_far [] mid last came inv same = subst (λ (all : List Event). Inv all last) (sym (append-nil so_far)) (subst (λ (w : Watched). Inv so_far w) (sym same) inv)
  forward Inv step so_far (event ∷ events) mid last came inv chain =
      subst (λ (all : List Event). Inv all last) (append_assoc so_far (event ∷ []) events)
      (forward Inv step (so_far ++ event ∷ []) events chain.0 last (chain_on Happens so_far (event ∷ []) first mid chain.0 came (chain.0, chain.1, refl)) (step so_far mid chain.0 event came inv chain.1) chain.2)

  -- ---- a list

  module _ (listing : Watched → ListingValue) where
    abbrev pub Drafts : DraftValue → Watched → Shown → Watched → Type 0
    Drafts draft old shown new = IsOf draft (listing new) shown.at old.server.table.rows

    -- the list that is being made, and the text of the place
    pub record Stands (events : List Event) (here : Watched) (lister : ListerValue FileValue) : Type 0 where
      pub draft : IfSome lister.draft (λ draft. WasOnce (Drafts draft) first events here)
      pub text : IfSome lister.text (λ text. WasOnce (Lists listing text) first events here)

    some_on : {A : Type 0} (Holds : A → Watched → Shown → Watched → Type 0) (events : List Event) (mid new : Watched) (event : Event) (one : Option A) → Happens mid event new
        → IfSome one (λ one. WasOnce (Holds one) first events mid) → IfSome one (λ one. WasOnce (Holds one) first (events ++ event ∷ []) new)
    some_on Holds events mid new event None happens once = tt
    some_on Holds events mid new event (Some one) happens once = once_on (Holds one) events mid new event happens once

    stands_on : (events : List Event) (mid new : Watched) (event : Event) (lister : ListerValue FileValue) → Happens mid event new → Stands events mid lister → Stands (events ++ event ∷ []) new lister
    stands_on events mid new event lister happens stands = record { draft = some_on Drafts events mid new event lister.draft happens stands.draft; text = some_on (Lists listing) events mid new event lister.text happens stands.text }

    module _ (events : List Event) (old new : Watched) (shown : Shown) (came : Chain Happens first events old) (saw : Happens old (was_shown shown) new) where
      abbrev rows : Rows
      rows = old.server.table.rows

      abbrev StandsNow : ListerValue FileValue → Type 0
      StandsNow lister = Stands (events ++ was_shown shown ∷ []) new lister

      draft_now : (draft : Option DraftValue) → IfSome draft (λ draft. WasOnce (Drafts draft) first events old) → WasOnce (Drafts (next_draft draft (listing new) rows shown.at)) first (events ++ was_shown shown ∷ []) new
      draft_now None once = once_now (Drafts (next_draft None (listing new) rows shown.at)) events old new shown came saw (part_more (new_draft (listing new) shown.at rows) (listing new) shown.at rows (refl, refl, refl))
      draft_now (Some draft) once =
          once_weaker (Drafts draft) (Drafts (one_part_more draft)) (events ++ was_shown shown ∷ []) new (λ was is one is_of. part_more draft (listing is) one.at was.server.table.rows is_of) (once_on (Drafts draft) events old new (was_shown shown) saw once)

      text_now : (lister : ListerValue FileValue) (text : List ℕ) → Stands events old lister → IsDraftText (next_draft lister.draft (listing new) rows shown.at) text → WasOnce (Lists listing text) first (events ++ was_shown shown ∷ []) new
      text_now lister text stands says = once_weaker (Drafts (next_draft lister.draft (listing new) rows shown.at)) (Lists listing text) (events ++ was_shown shown ∷ []) new
          (λ was is one is_of. text_of_draft (next_draft lister.draft (listing new) rows shown.at) (listing is) one.at was.server.table.rows text is_of says) (draft_now lister.draft stands.draft)

      old_text : (lister : ListerValue FileValue) → Stands events old lister → IfSome lister.text (λ text. WasOnce (Lists listing text) first (events ++ was_shown shown ∷ []) new)
      old_text lister stands = some_on (Lists listing) events old new (was_shown shown) lister.text saw stands.text

      lists_on : (before : ListerValue FileValue) (kept : Kept) (after : ListerValue FileValue) → ListsOn Stays Stays (listing new) rows shown.at before kept after → Stands events old before → StandsNow after
      lists_on before _ _ (list.early due) stands = stands_on events old new (was_shown shown) before saw stands
      lists_on before _ _ (list.unfinished due part) stands = record { draft = draft_now before.draft stands.draft; text = old_text before stands }
      lists_on before _ _ (list.same text due whole says is) stands = record { draft = tt; text = old_text before stands }
      lists_on before _ _ (list.written text place due whole says other put) stands = record { draft = tt; text = text_now before text stands says }
      lists_on before _ _ (list.no_memory due) stands = record { draft = tt; text = old_text before stands }
      lists_on before _ _ (list.refused text place due whole says other refuse) stands = record { draft = tt; text = old_text before stands }

      lists_in : (before after : Option (ListerValue FileValue)) → ListsIn Stays Stays (listing new) rows shown.at before after → IfSome before (Stands events old) → IfSome after StandsNow
      lists_in _ _ not_listed stands = tt
      lists_in _ _ (listed before kept after on) stands = lists_on before kept after on stands

  -- ---- the statistics

  abbrev pub StatsStand : List Event → Watched → KeeperValue FileValue → Type 0
  StatsStand events here keeper = IfSome keeper.text (λ text. WasOnce (ReportsStats text) first events here)

  stats_on : (events : List Event) (mid new : Watched) (event : Event) (text : Option (List ℕ)) → Happens mid event new → IfSome text (λ text. WasOnce (ReportsStats text) first events mid) → IfSome text (λ text. WasOnce (ReportsStats text) first (events ++ event ∷ []) new)
  stats_on events mid new event None happens once = tt
  stats_on events mid new event (Some text) happens once = once_on (ReportsStats text) events mid new event happens once

  module _ (events : List Event) (old new : Watched) (shown : Shown) (came : Chain Happens first events old) (saw : Happens old (was_shown shown) new) where
    keeps_on : (before : KeeperValue FileValue) (kept : Kept) (after : KeeperValue FileValue) → Keeps Stays Stays (λ text. ReportsStats text old shown new) shown.at before kept after → StatsStand events old before → StatsStand (events ++ was_shown shown ∷ []) new after
    keeps_on before _ _ (keep.early due) stands = stats_on events old new (was_shown shown) before.text saw stands
    keeps_on before _ _ (keep.same text due says is) stands = stats_on events old new (was_shown shown) before.text saw stands
    keeps_on before _ _ (keep.written text place due says other put) stands = once_now (ReportsStats text) events old new shown came saw says
    keeps_on before _ _ (keep.no_memory due) stands = stats_on events old new (was_shown shown) before.text saw stands
    keeps_on before _ _ (keep.refused text place due says other refuse) stands = stats_on events old new (was_shown shown) before.text saw stands

    keeps_in : (before after : Option (KeeperValue FileValue)) → KeepsIn Stays Stays (λ text. ReportsStats text old shown new) shown.at before after → IfSome before (StatsStand events old) → IfSome after (StatsStand (events ++ was_shown shown ∷ []) new)
    keeps_in _ _ not_kept stands = tt
    keeps_in _ _ (looked before kept after on) stands = keeps_on before kept after on stands

  -- ---- all of them

  pub record AllStand (events : List Event) (here : Watched) : Type 0 where
    pub leases : IfSome here.journal.leases (Stands leases_then events here)
    pub hosts : IfSome here.journal.hosts (Stands hosts_then events here)
    pub stats : IfSome here.journal.stats (StatsStand events here)

  lister_on : (listing : Watched → ListingValue) (events : List Event) (mid new : Watched) (event : Event) (lister : Option (ListerValue FileValue)) → Happens mid event new → IfSome lister (Stands listing events mid) → IfSome lister (Stands listing (events ++ event ∷ []) new)
  lister_on listing events mid new event None happens stands = tt
  lister_on listing events mid new event (Some lister) happens stands = stands_on listing events mid new event lister happens stands

  keeper_on : (events : List Event) (mid new : Watched) (event : Event) (keeper : Option (KeeperValue FileValue)) → Happens mid event new → IfSome keeper (StatsStand events mid) → IfSome keeper (StatsStand (events ++ event ∷ []) new)
  keeper_on events mid new event None happens stands = tt
  keeper_on events mid new event (Some keeper) happens stands = stats_on events mid new event keeper.text happens stands

  all_on : (events : List Event) (mid new : Watched) (event : Event) → Happens mid event new → AllStand events mid → (new.journal.leases ≡ mid.journal.leases) × (new.journal.hosts ≡ mid.journal.hosts) × (new.journal.stats ≡ mid.journal.stats) → AllStand (events ++ event ∷ []) new
  all_on events mid new event happens all same = record {
    leases = subst (λ (l : Option (ListerValue FileValue)). IfSome l (Stands leases_then (events ++ event ∷ []) new)) (sym same.0) (lister_on leases_then events mid new event mid.journal.leases happens all.leases);
    hosts = subst (λ (l : Option (ListerValue FileValue)). IfSome l (Stands hosts_then (events ++ event ∷ []) new)) (sym same.1) (lister_on hosts_then events mid new event mid.journal.hosts happens all.hosts);
    stats = subst (λ (k : Option (KeeperValue FileValue)). IfSome k (StatsStand (events ++ event ∷ []) new)) (sym same.2) (keeper_on events mid new event mid.journal.stats happens all.stats);
  }

  step : (events : List Event) (old new : Watched) (event : Event) → Chain Happens first events old → AllStand events old → Happens old event new → AllStand (events ++ event ∷ []) new
  step events old _ _ came all (acts entry server does) = all_on events old (record old { server = server }) (acted entry) (acts entry server does) all (refl, refl, refl)
  step events old _ _ came all (sees shown journal text saw) =
      let new : Watched = record old { journal = journal; text = text } in
      let happens : Happens old (was_shown shown) new = sees shown journal text saw in
      record {
        leases = lists_in leases_then events old new shown came happens old.journal.leases journal.leases saw.leases_kept all.leases;
        hosts = lists_in hosts_then events old new shown came happens old.journal.hosts journal.hosts saw.hosts_kept all.hosts;
        stats = keeps_in events old new shown came happens old.journal.stats journal.stats saw.stats_kept all.stats;
      }
  step events old _ _ came all (notes capitals journal noted) = all_on events old (record old { journal = journal }) (were_fixed capitals) (notes capitals journal noted) all
      (ap (λ (j : Journal ℕ FileValue). j.leases) noted, ap (λ (j : Journal ℕ FileValue). j.hosts) noted, ap (λ (j : Journal ℕ FileValue). j.stats) noted)

  -- ---- at first there is nothing

  new_lists : {A : Type 0} (listing : Watched → ListingValue) (content : Content) (path : Option (String A)) → IfSome (lister_of (place_of content path)) (Stands listing [] first)
  new_lists listing content None = tt
  new_lists listing content (Some path) = record { draft = tt; text = tt }

  new_stats : {A : Type 0} (content : Content) (path : Option (String A)) → IfSome (keeper_of (place_of content path)) (StatsStand [] first)
  new_stats content None = tt
  new_stats content (Some path) = tt

  at_first : IsNew first → AllStand [] first
  at_first is = record {
    leases = subst (λ (j : Journal ℕ FileValue). IfSome j.leases (Stands leases_then [] first)) (sym is.journal_is) (new_lists leases_then content.Leases is.a.leases);
    hosts = subst (λ (j : Journal ℕ FileValue). IfSome j.hosts (Stands hosts_then [] first)) (sym is.journal_is) (new_lists hosts_then content.Hosts is.a.hosts);
    stats = subst (λ (j : Journal ℕ FileValue). IfSome j.stats (StatsStand [] first)) (sym is.journal_is) (new_stats content.Stats is.a.stats);
  }

  in_lister : (listing : Watched → ListingValue) (events : List Event) (here : Watched) (lister : Option (ListerValue FileValue)) → IfSome lister (Stands listing events here) → IfSome (listed_in lister) (λ text. WasOnce (Lists listing text) first events here)
  in_lister listing events here None stands = tt
  in_lister listing events here (Some lister) stands = stands.text

  in_keeper : (events : List Event) (here : Watched) (keeper : Option (KeeperValue FileValue)) → IfSome keeper (StatsStand events here) → IfSome (kept_in keeper) (λ text. WasOnce (ReportsStats text) first events here)
  in_keeper events here None stands = tt
  in_keeper events here (Some keeper) stands = stands

pub what_is_watched_is_said : WhatIsWatchedIsSaid
what_is_watched_is_said first last events is chain =
    let all = forward first (AllStand first) (step first) [] events first last refl (at_first first is) chain in
    record {
      outcomes = outcomes_are events first last chain ∙ ap (λ (j : Journal ℕ FileValue). outcomes_after j.tally.outcomes (told events)) is.journal_is;
      refusals = refusals_are events first last chain ∙ ap (λ (j : Journal ℕ FileValue). refusals_after j.tally.refusals (told events)) is.journal_is;
      leases = in_lister first leases_then events last last.journal.leases all.leases;
      hosts = in_lister first hosts_then events last last.journal.hosts all.hosts;
      stats = in_keeper first events last last.journal.stats all.stats;
    }
