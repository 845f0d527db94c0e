-- How old the lists and the statistics are after events that are steady.
use Rattle.std.proofs.Common.{◌≡◌, ◌<◌, ◌≤◌, ◌⊎◌, ℕ, suc, ◌+◌, ◌*◌, List, [], ◌∷◌, ◌++◌, length, Option, Some, None, IfSome, String, refl, sym, ap, subst, append-nil, append_assoc, inl, inr, arith}
use Rattle.nbt_port.specs.PortCalls.{Chain}
use Rattle.nbt_lease.specs.Lease.{Rows}
use Rattle.nbt_log.specs.Drafts.{ListingValue, DraftValue, new_draft, one_part_more, IsWhole, IsDraftText}
use Rattle.nbt_nbns.specs.Journaling.{ListsIn, not_listed, listed, KeepsIn}
use Rattle.nbt_nbns.specs.Journaling as journal
use Rattle.nbt_nbns.specs.Keeping.{KeeperValue, Keeps}
use Rattle.nbt_nbns.specs.Keeping as keep
use Rattle.nbt_nbns.specs.Listers.{ListerValue, ListsOn, next_draft}
use Rattle.nbt_nbns.specs.Listers as list
use Rattle.nbt_nbns.specs.Places.{FileValue, Stays}
use Rattle.nbt_nbns.specs.Running.{lister_of, keeper_of, place_of}
use Rattle.nbt_nbns.specs.declared.content.Content.{Content}
use Rattle.nbt_nbns.specs.declared.content.Content.TheVariants as content
use Rattle.nbt_nbns.specs.declared.journal.Journal.{Journal}
use Rattle.nbt_nbns.specs.declared.keeper.Kept.{Kept}
use Rattle.nbt_nbns.specs.declared.staying.Shown.{Shown}
use Rattle.nbt_whole.specs.Watched.{Watched, Event, acted, was_shown, were_fixed, Happens, acts, sees, notes}
use Rattle.nbt_whole.specs.Said.{WasOnce, leases_then, hosts_then, Lists, ReportsStats}
use Rattle.nbt_whole.specs.Aging.{failed_at_list, failed_at_report, failed_if_listed, failed_if_kept, leases_failed, hosts_failed, stats_failed, failed_last, IsSteady, latest, leases_looks, hosts_looks, oldest, IsRecent, FailedLately, HasRecent, LeasesAreRecent, HostsAreRecent, StatisticsAreRecent}
use Rattle.nbt_whole.proofs.Parts.{IsListed, list_goes_on, leases_begin, IsNotedOrListed, hosts_go_on, hosts_begin}
use Rattle.nbt_whole.proofs.Showing.{chain_on}
use Rattle.nbt_whole.proofs.Saying.{once_on, once_weaker, once_now, IsOf, part_more, text_of_draft}

-- ---- numbers

spans : (q p : ℕ) → suc q * p ≡ p + q * p
spans q p = omega arith

-- so much of a budget is left after one part
one_spent : (n now looked gap x y total : ℕ) → y ≡ (5 + gap) + x → n < looked + 5 → now ≤ n + gap → looked + y ≤ total → now + x ≤ total
one_spent n now looked gap x y total is before soon fits = omega (arith, is, before, soon, fits)

module _ (gap most begun : ℕ) (first : Watched) where
  abbrev OnceAt : (Watched → Shown → Watched → Type 0) → (at : ℕ) → List Event → Watched → Type 0
  OnceAt Holds at events here = WasOnce (λ old shown new. Holds old shown new × (shown.at ≡ at)) first events here

  -- the text of a place is that of this moment, or a look failed then; where it has no text yet, that is when all began
  abbrev TextFrom : (Says : List ℕ → Watched → Shown → Watched → Type 0) → Option (List ℕ) → (from : ℕ) → (failed : Option ℕ) → List Event → Watched → Type 0
  TextFrom Says None from failed events here = (from ≡ begun) ⊎ (failed ≡ Some from)
  TextFrom Says (Some text) from failed events here = OnceAt (Says text) from events here ⊎ (failed ≡ Some from)

  failed_from : (Says : List ℕ → Watched → Shown → Watched → Type 0) (text : Option (List ℕ)) (from : ℕ) (events : List Event) (here : Watched) → TextFrom Says text from (Some from) events here
  failed_from Says None from events here = inr refl
  failed_from Says (Some text) from events here = inr refl

  -- ---- what isn't shown changes nothing

  at_on : (Holds : Watched → Shown → Watched → Type 0) (at : ℕ) (events : List Event) (mid new : Watched) (event : Event) → Happens mid event new → OnceAt Holds at events mid → OnceAt Holds at (events ++ event ∷ []) new
  at_on Holds at events mid new event happens once = once_on first (λ old shown new. Holds old shown new × (shown.at ≡ at)) events mid new event happens once

  text_on : (Says : List ℕ → Watched → Shown → Watched → Type 0) (text : Option (List ℕ)) (from : ℕ) (failed : Option ℕ) (events : List Event) (mid new : Watched) (event : Event) → Happens mid event new → TextFrom Says text from failed events mid
      → TextFrom Says text from failed (events ++ event ∷ []) new
  text_on Says None from failed events mid new event happens was = was
  text_on Says (Some text) from failed events mid new event happens (inl once) = inl (at_on (Says text) from events mid new event happens once)
  text_on Says (Some text) from failed events mid new event happens (inr is) = inr is

  -- ---- how old a text is

  rests_recent : (n looked at x : ℕ) → n < looked + 1000 → looked ≤ at + x → n ≤ at + (1000 + gap + 2 * x)
  rests_recent n looked at x before low = omega (arith, before, low)

  made_recent : (n looked from x y z : ℕ) → y ≡ (5 + gap) + z → n < looked + 5 → looked + y ≤ from + (1000 + gap + 2 * x) → n ≤ from + (1000 + gap + 2 * x)
  made_recent n looked from x y z is before early = omega (arith, is, before, early)

  lately : (age from n : ℕ) (failed : Option ℕ) → failed ≡ Some from → n ≤ from + age → FailedLately age n failed
  lately age from n failed is low = subst (λ (f : Option ℕ). FailedLately age n f) (sym is) low

  text_recent : (Says : List ℕ → Watched → Shown → Watched → Type 0) (age : ℕ) (failed : Option ℕ) (events : List Event) (here : Watched) (n from : ℕ) (text : Option (List ℕ)) → TextFrom Says text from failed events here → n ≤ from + age
      → HasRecent Says age begun n failed first events here text
  text_recent Says age failed events here n from None (inl was) low = (tt, λ none. inl (subst (λ (m : ℕ). n ≤ m + age) was low))
  text_recent Says age failed events here n from None (inr is) low = (tt, λ none. inr (lately age from n failed is low))
  text_recent Says age failed events here n from (Some text) (inl was) low = (
    inl (once_weaker first (λ old shown new. Says text old shown new × (shown.at ≡ from)) (IsRecent Says age n text) events here (λ old new shown both. (both.0, subst (λ (m : ℕ). n ≤ m + age) (sym both.1) low)) was),
    λ none. absurd cc,
  )
  text_recent Says age failed events here n from (Some text) (inr is) low = (inr (lately age from n failed is low), λ none. absurd cc)

  none_recent : (n age : ℕ) → n ≤ begun → n ≤ begun + age
  none_recent n age low = omega (arith, low)

  -- ---- a list, which takes so many looks at most behind its first one; `Left` says of a draft how many are left

  module _ (listing : Watched → ListingValue) (looks : ℕ) (Left : DraftValue → ℕ → Type 0) where
    abbrev Listed : List ℕ → Watched → Shown → Watched → Type 0
    Listed = Lists listing

    abbrev DraftOf : DraftValue → Watched → Shown → Watched → Type 0
    DraftOf draft old shown new = IsOf draft (listing new) shown.at old.server.table.rows

    -- how far a list is, and when it began, by the last showing, and by when a look failed last
    data Aged (failed : Option ℕ) (events : List Event) (here : Watched) (n : ℕ) : ListerValue FileValue → Type 0 where
      fresh : (place : FileValue) → n ≤ begun → Aged failed events here n (record { looked = None; draft = None; text = None; place = place })
      rests : (place : FileValue) (looked at : ℕ) (text : Option (List ℕ)) → n < looked + 1000 → looked ≤ at + looks * (5 + gap) → TextFrom Listed text at failed events here
          → Aged failed events here n (record { looked = Some looked; draft = None; text = text; place = place })
      is_made : (place : FileValue) (looked at from q : ℕ) (draft : DraftValue) (text : Option (List ℕ)) → n < looked + 5 → OnceAt (DraftOf draft) at events here → TextFrom Listed text from failed events here
          → Left draft (suc q) → looked + suc q * (5 + gap) ≤ at + looks * (5 + gap) → looked + suc q * (5 + gap) ≤ from + (1000 + gap + 2 * (looks * (5 + gap)))
          → Aged failed events here n (record { looked = Some looked; draft = Some draft; text = text; place = place })

    aged_still : (failed : Option ℕ) (events : List Event) (mid new : Watched) (event : Event) (n : ℕ) (lister : ListerValue FileValue) → Happens mid event new → Aged failed events mid n lister → Aged failed (events ++ event ∷ []) new n lister
    aged_still failed events mid new event n _ happens (fresh place low) = fresh place low
    aged_still failed events mid new event n _ happens (rests place looked at text before low was) = rests place looked at text before low (text_on Listed text at failed events mid new event happens was)
    aged_still failed events mid new event n _ happens (is_made place looked at from q draft text before once was left low early) =
        is_made place looked at from q draft text before (at_on (DraftOf draft) at events mid new event happens once) (text_on Listed text from failed events mid new event happens was) left low early

    if_still : (failed : Option ℕ) (events : List Event) (mid new : Watched) (event : Event) (n : ℕ) (lister : Option (ListerValue FileValue)) → Happens mid event new → IfSome lister (Aged failed events mid n) → IfSome lister (Aged failed (events ++ event ∷ []) new n)
    if_still failed events mid new event n None happens aged = tt
    if_still failed events mid new event n (Some lister) happens aged = aged_still failed events mid new event n lister happens aged

    abbrev ListIsRecent : Option ℕ → List Event → Watched → ℕ → ListerValue FileValue → Type 0
    ListIsRecent failed events here n lister = HasRecent Listed (oldest gap looks) begun n failed first events here lister.text

    recent : (failed : Option ℕ) (events : List Event) (here : Watched) (n : ℕ) (lister : ListerValue FileValue) → Aged failed events here n lister → ListIsRecent failed events here n lister
    recent failed events here n _ (fresh place low) = (tt, λ none. inl (none_recent n (oldest gap looks) low))
    recent failed events here n _ (rests place looked at text before low was) = text_recent Listed (oldest gap looks) failed events here n at text was (rests_recent n looked at (looks * (5 + gap)) before low)
    recent failed events here n _ (is_made place looked at from q draft text before once was left low early) =
        text_recent Listed (oldest gap looks) failed events here n from text was (made_recent n looked from (looks * (5 + gap)) (suc q * (5 + gap)) (q * (5 + gap)) (spans q (5 + gap)) before early)

    if_recent : (failed : Option ℕ) (events : List Event) (here : Watched) (n : ℕ) (lister : Option (ListerValue FileValue)) → IfSome lister (Aged failed events here n) → IfSome lister (ListIsRecent failed events here n)
    if_recent failed events here n None aged = tt
    if_recent failed events here n (Some lister) aged = recent failed events here n lister aged

    new_lister_aged : {A : Type 0} (content : Content) (path : Option (String A)) → IfSome (lister_of (place_of content path)) (Aged None [] first begun)
    new_lister_aged content None = tt
    new_lister_aged content (Some path) = fresh _ (omega arith)

    -- a showing
    module _ (begins : (new : Watched) (rows : Rows) (now : ℕ) → length rows ≤ most → ¬ IsWhole (next_draft None (listing new) rows now) → (q : ℕ) × (looks ≡ suc q) × Left (next_draft None (listing new) rows now) (suc q))
        (goes_on : (draft : DraftValue) (q : ℕ) → Left draft (suc q) → ¬ IsWhole (one_part_more draft) → (r : ℕ) × (q ≡ suc r) × Left (one_part_more draft) (suc r))
        (failed : Option ℕ) (events : List Event) (old new : Watched) (shown : Shown) (came : Chain Happens first events old) (saw : Happens old (was_shown shown) new) (n : ℕ) (later : n ≤ shown.at) (soon : shown.at ≤ n + gap)
        (few : length old.server.table.rows ≤ most) where
      abbrev now : ℕ
      now = shown.at

      abbrev rows : Rows
      rows = old.server.table.rows

      abbrev events_now : List Event
      events_now = events ++ was_shown shown ∷ []

      abbrev AgedNow : ListerValue FileValue → Type 0
      AgedNow lister = Aged failed events_now new now lister

      abbrev first_draft : DraftValue
      first_draft = next_draft None (listing new) rows now

      first_once : OnceAt (DraftOf first_draft) now events_now new
      first_once = once_now first (λ old shown new. DraftOf first_draft old shown new × (shown.at ≡ now)) events old new shown came saw (part_more (new_draft (listing new) now rows) (listing new) now rows (refl, refl, refl), refl)

      -- a list is whole, and the place has its text
      whole_now : (place : FileValue) (at : ℕ) (draft : DraftValue) (text : List ℕ) → OnceAt (DraftOf draft) at events_now new → IsDraftText draft text → now ≤ at + looks * (5 + gap) → AgedNow (record { looked = Some now; draft = None; text = Some text; place = place })
      whole_now place at draft text once says low = rests place now at (Some text) (omega arith) low
          (inl (once_weaker first (λ old shown new. DraftOf draft old shown new × (shown.at ≡ at)) (λ old shown new. Listed text old shown new × (shown.at ≡ at)) events_now new
          (λ was is one both. (text_of_draft draft (listing is) one.at was.server.table.rows text both.0 says, both.1)) once))

      -- the same, where the place has that text already
      whole_same : (place : FileValue) (at : ℕ) (draft : DraftValue) (text : List ℕ) (had : Option (List ℕ)) → had ≡ Some text → OnceAt (DraftOf draft) at events_now new → IsDraftText draft text → now ≤ at + looks * (5 + gap)
          → AgedNow (record { looked = Some now; draft = None; text = had; place = place })
      whole_same place at draft text had is once says low = subst (λ (t : Option (List ℕ)). AgedNow (record { looked = Some now; draft = None; text = t; place = place })) (sym is) (whole_now place at draft text once says low)

      -- a list is begun
      begun_now : (place : FileValue) (from : ℕ) (text : Option (List ℕ)) → TextFrom Listed text from failed events_now new → ¬ IsWhole first_draft → now ≤ from + 1000 + gap + looks * (5 + gap) → AgedNow (record { looked = Some now; draft = Some first_draft; text = text; place = place })
      begun_now place from text was part low =
          let some = begins new rows now few part in
          let spent : suc some.0 * (5 + gap) ≡ looks * (5 + gap) = ap (λ (x : ℕ). x * (5 + gap)) (sym some.1) in
          is_made place now now from some.0 first_draft text (omega arith) first_once was some.2 (omega (arith, spent)) (omega (arith, spent, low))

      first_is_soon : now ≤ now + looks * (5 + gap)
      first_is_soon = omega arith

      -- one part more
      next_once : (at : ℕ) (draft : DraftValue) → OnceAt (DraftOf draft) at events old → OnceAt (DraftOf (one_part_more draft)) at events_now new
      next_once at draft once = once_weaker first (λ old shown new. DraftOf draft old shown new × (shown.at ≡ at)) (λ old shown new. DraftOf (one_part_more draft) old shown new × (shown.at ≡ at)) events_now new
          (λ was is one both. (part_more draft (listing is) one.at was.server.table.rows both.0, both.1)) (at_on (DraftOf draft) at events old new (was_shown shown) saw once)

      spent_now : (looked q total : ℕ) → n < looked + 5 → looked + suc q * (5 + gap) ≤ total → now + q * (5 + gap) ≤ total
      spent_now looked q total before fits = one_spent n now looked gap (q * (5 + gap)) (suc q * (5 + gap)) total (spans q (5 + gap)) before soon fits

      whole_soon : (looked q total : ℕ) → n < looked + 5 → looked + suc q * (5 + gap) ≤ total → now ≤ total
      whole_soon looked q total before fits = let spent = spent_now looked q total before fits in over (q * (5 + gap)) spent
        where
          over : (x : ℕ) → now + x ≤ total → now ≤ total
          over x spent = omega (arith, spent)

      next_made : (place : FileValue) (looked at from q : ℕ) (draft : DraftValue) (text : Option (List ℕ)) → n < looked + 5 → OnceAt (DraftOf draft) at events old → TextFrom Listed text from failed events old
          → Left draft (suc q) → looked + suc q * (5 + gap) ≤ at + looks * (5 + gap) → looked + suc q * (5 + gap) ≤ from + (1000 + gap + 2 * (looks * (5 + gap)))
          → ¬ IsWhole (one_part_more draft) → AgedNow (record { looked = Some now; draft = Some (one_part_more draft); text = text; place = place })
      next_made place looked at from q draft text before once was left low early part =
          let some = goes_on draft q left part in
          is_made place now at from some.0 (one_part_more draft) text (omega arith) (next_once at draft once) (text_on Listed text from failed events old new (was_shown shown) saw was) some.2
          (subst (λ (x : ℕ). now + x * (5 + gap) ≤ at + looks * (5 + gap)) some.1 (spent_now looked q _ before low))
          (subst (λ (x : ℕ). now + x * (5 + gap) ≤ from + (1000 + gap + 2 * (looks * (5 + gap)))) some.1 (spent_now looked q _ before early))

      -- a list that rests is begun anew within a second, and a showing
      anew : (looked at : ℕ) → n < looked + 1000 → looked ≤ at + looks * (5 + gap) → now ≤ at + 1000 + gap + looks * (5 + gap)
      anew looked at before low = over (looks * (5 + gap)) low
        where
          over : (x : ℕ) → looked ≤ at + x → now ≤ at + 1000 + gap + x
          over x low = omega (arith, before, soon, low)

      -- what waits for the next look
      text_still : (text : Option (List ℕ)) (at : ℕ) → TextFrom Listed text at failed events old → TextFrom Listed text at failed events_now new
      text_still text at was = text_on Listed text at failed events old new (was_shown shown) saw was

      -- a look failed now
      failed_now : (place : FileValue) (text : Option (List ℕ)) → Aged (Some now) events_now new now (record { looked = Some now; draft = None; text = text; place = place })
      failed_now place text = rests place now now text (omega arith) first_is_soon (failed_from Listed text now events_now new)

      aged_on : (before : ListerValue FileValue) (kept : Kept) (after : ListerValue FileValue) (on : ListsOn Stays Stays (listing new) rows now before kept after) → Aged failed events old n before → Aged (failed_at_list on now failed) events_now new now after
      aged_on _ _ _ (list.early due) (fresh place low) = absurd (due tt)
      aged_on _ _ _ (list.early due) (rests place looked at text before low was) = rests place looked at text (omega (arith, due)) low (text_still text at was)
      aged_on _ _ _ (list.early due) (is_made place looked at from q draft text before once was left low early) =
          is_made place looked at from q draft text (omega (arith, due)) (at_on (DraftOf draft) at events old new (was_shown shown) saw once) (text_still text from was) left low early
      aged_on _ _ _ (list.unfinished due part) (fresh place low) = begun_now place begun None (inl refl) part (omega (arith, low, soon))
      aged_on _ _ _ (list.unfinished due part) (rests place looked at text before low was) = begun_now place at text (text_still text at was) part (anew looked at before low)
      aged_on _ _ _ (list.unfinished due part) (is_made place looked at from q draft text before once was left low early) = next_made place looked at from q draft text before once was left low early part
      aged_on _ _ _ (list.same text due whole says is) (fresh place low) = whole_same place now first_draft text None is first_once says first_is_soon
      aged_on _ _ _ (list.same text due whole says is) (rests place looked at had before low was) = whole_same place now first_draft text had is first_once says first_is_soon
      aged_on _ _ _ (list.same text due whole says is) (is_made place looked at from q draft had before once was left low early) =
          whole_same place at (one_part_more draft) text had is (next_once at draft once) says (whole_soon looked q _ before low)
      aged_on _ _ _ (list.written text place due whole says other put) (fresh old_place low) = whole_now place now first_draft text first_once says first_is_soon
      aged_on _ _ _ (list.written text place due whole says other put) (rests old_place looked at had before low was) = whole_now place now first_draft text first_once says first_is_soon
      aged_on _ _ _ (list.written text place due whole says other put) (is_made old_place looked at from q draft had before once was left low early) =
          whole_now place at (one_part_more draft) text (next_once at draft once) says (whole_soon looked q _ before low)
      aged_on before _ _ (list.no_memory due) aged = failed_now before.place before.text
      aged_on before _ _ (list.refused text place due whole says other refuse) aged = failed_now place before.text

      aged_in : (before after : Option (ListerValue FileValue)) (lists : ListsIn Stays Stays (listing new) rows now before after) → IfSome before (Aged failed events old n) → IfSome after (Aged (failed_if_listed lists now failed) events_now new now)
      aged_in _ _ not_listed aged = tt
      aged_in _ _ (listed before kept after on) aged = aged_on before kept after on aged

  -- ---- the statistics

  -- which text their place has, by the last showing, and by when a look failed last
  data Reported (failed : Option ℕ) (events : List Event) (here : Watched) (n : ℕ) : KeeperValue FileValue → Type 0 where
    never_looked : (place : FileValue) → n ≤ begun → Reported failed events here n (record { looked = None; text = None; place = place })
    from_look : (place : FileValue) (looked : ℕ) (text : Option (List ℕ)) → n < looked + 1000 → TextFrom ReportsStats text looked failed events here → Reported failed events here n (record { looked = Some looked; text = text; place = place })

  reported_still : (failed : Option ℕ) (events : List Event) (mid new : Watched) (event : Event) (n : ℕ) (keeper : Option (KeeperValue FileValue)) → Happens mid event new → IfSome keeper (Reported failed events mid n) → IfSome keeper (Reported failed (events ++ event ∷ []) new n)
  reported_still failed events mid new event n None happens is = tt
  reported_still failed events mid new event n (Some _) happens (never_looked place low) = never_looked place low
  reported_still failed events mid new event n (Some _) happens (from_look place looked text before was) = from_look place looked text before (text_on ReportsStats text looked failed events mid new event happens was)

  module _ (failed : Option ℕ) (events : List Event) (old new : Watched) (shown : Shown) (came : Chain Happens first events old) (saw : Happens old (was_shown shown) new) (n : ℕ) where
    abbrev moment : ℕ
    moment = shown.at

    abbrev behind : List Event
    behind = events ++ was_shown shown ∷ []

    text_of_now : (place : FileValue) (text : List ℕ) → ReportsStats text old shown new → Reported failed behind new moment (record { looked = Some moment; text = Some text; place = place })
    text_of_now place text says = from_look place moment (Some text) (omega arith) (inl (once_now first (λ old shown new. ReportsStats text old shown new × (shown.at ≡ moment)) events old new shown came saw (says, refl)))

    failed_at_look : (place : FileValue) (text : Option (List ℕ)) → Reported (Some moment) behind new moment (record { looked = Some moment; text = text; place = place })
    failed_at_look place text = from_look place moment text (omega arith) (failed_from ReportsStats text moment behind new)

    reports_on : (before : KeeperValue FileValue) (kept : Kept) (after : KeeperValue FileValue) (on : Keeps Stays Stays (λ text. ReportsStats text old shown new) moment before kept after) → Reported failed events old n before
        → Reported (failed_at_report on moment failed) behind new moment after
    reports_on _ _ _ (keep.early due) (never_looked place low) = absurd (due tt)
    reports_on _ _ _ (keep.early due) (from_look place looked text before was) = from_look place looked text (omega (arith, due)) (text_on ReportsStats text looked failed events old new (was_shown shown) saw was)
    reports_on before _ _ (keep.same text due says is) was =
        subst (λ (t : Option (List ℕ)). Reported failed behind new moment (record { looked = Some moment; text = t; place = before.place })) (sym is) (text_of_now before.place text says)
    reports_on before _ _ (keep.written text place due says other put) was = text_of_now place text says
    reports_on before _ _ (keep.no_memory due) was = failed_at_look before.place before.text
    reports_on before _ _ (keep.refused text place due says other refuse) was = failed_at_look place before.text

    reports_in : (before after : Option (KeeperValue FileValue)) (keeps : KeepsIn Stays Stays (λ text. ReportsStats text old shown new) moment before after) → IfSome before (Reported failed events old n) → IfSome after (Reported (failed_if_kept keeps moment failed) behind new moment)
    reports_in _ _ journal.not_kept was = tt
    reports_in _ _ (journal.looked before kept after on) was = reports_on before kept after on was

  -- ---- all events

  -- what is asked of a showing
  abbrev IsSoon : Watched → Event → (n : ℕ) → Type 0
  IsSoon old (acted entry) n = Unit {0}
  IsSoon old (was_shown shown) n = (n ≤ shown.at) × (shown.at ≤ n + gap) × (length old.server.table.rows ≤ most)
  IsSoon old (were_fixed capitals) n = Unit {0}

  -- what holds at first, and after each event where it held before, holds in the end
  module _ (fails : (old : Watched) (event : Event) (new : Watched) → Happens old event new → Option ℕ → Option ℕ) (Inv : Option ℕ → List Event → Watched → ℕ → Type 0)
      (step : (failed : Option ℕ) (so_far : List Event) (old : Watched) (event : Event) (new : Watched) (n : ℕ) (happens : Happens old event new) → Chain Happens first so_far old → IsSoon old event n → Inv failed so_far old n
      → Inv (fails old event new happens failed) (so_far ++ event ∷ []) new (latest n (event ∷ []))) where
    one_event : (so_far : List Event) (mid new : Watched) (event : Event) → Chain Happens first so_far mid → Happens mid event new → Chain Happens first (so_far ++ event ∷ []) new
    one_event so_far mid new event came happens = chain_on Happens so_far (event ∷ []) first mid new came (new, happens, refl)

    forward : (failed : Option ℕ) (so_far events : List Event) (mid last : Watched) (n : ℕ) → Chain Happens first so_far mid → Inv failed so_far mid n → (chain : Chain Happens mid events last) → IsSteady gap most n mid events last chain
        → Inv (failed_last fails failed mid events last chain) (so_far ++ events) last (latest n events)
    forward failed so_far [] mid last n came inv chain steady = subst (λ (all : List Event). Inv failed all last n) (sym (append-nil so_far)) (subst (λ (w : Watched). Inv failed so_far w n) (sym chain) inv)
    forward failed so_far (acted entry ∷ events) mid last n came inv chain steady =
        let next = fails mid (acted entry) chain.0 chain.1 failed in
        subst (λ (all : List Event). Inv (failed_last fails next chain.0 events last chain.2) all last (latest n events)) (append_assoc so_far (acted entry ∷ []) events)
        (forward next (so_far ++ acted entry ∷ []) events chain.0 last n (one_event so_far mid chain.0 (acted entry) came chain.1) (step failed so_far mid (acted entry) chain.0 n chain.1 came tt inv) chain.2 steady)
    forward failed so_far (was_shown shown ∷ events) mid last n came inv chain steady =
        let next = fails mid (was_shown shown) chain.0 chain.1 failed in
        subst (λ (all : List Event). Inv (failed_last fails next chain.0 events last chain.2) all last (latest shown.at events)) (append_assoc so_far (was_shown shown ∷ []) events)
        (forward next (so_far ++ was_shown shown ∷ []) events chain.0 last shown.at (one_event so_far mid chain.0 (was_shown shown) came chain.1)
        (step failed so_far mid (was_shown shown) chain.0 n chain.1 came (steady.0, steady.1, steady.2) inv) chain.2 steady.3)
    forward failed so_far (were_fixed capitals ∷ events) mid last n came inv chain steady =
        let next = fails mid (were_fixed capitals) chain.0 chain.1 failed in
        subst (λ (all : List Event). Inv (failed_last fails next chain.0 events last chain.2) all last (latest n events)) (append_assoc so_far (were_fixed capitals ∷ []) events)
        (forward next (so_far ++ were_fixed capitals ∷ []) events chain.0 last n (one_event so_far mid chain.0 (were_fixed capitals) came chain.1) (step failed so_far mid (were_fixed capitals) chain.0 n chain.1 came tt inv) chain.2 steady)

  -- a list after one event more
  abbrev AgedIn : (listing : Watched → ListingValue) (looks : ℕ) (Left : DraftValue → ℕ → Type 0) → Option ℕ → List Event → Watched → ℕ → Option (ListerValue FileValue) → Type 0
  AgedIn listing looks Left failed events here n lister = IfSome lister (Aged listing looks Left failed events here n)

  still_aged : (listing : Watched → ListingValue) (looks : ℕ) (Left : DraftValue → ℕ → Type 0) (failed : Option ℕ) (so_far : List Event) (old new : Watched) (event : Event) (n : ℕ) (before after : Option (ListerValue FileValue)) → after ≡ before → Happens old event new
      → AgedIn listing looks Left failed so_far old n before → AgedIn listing looks Left failed (so_far ++ event ∷ []) new n after
  still_aged listing looks Left failed so_far old new event n before after same happens aged =
      subst (λ (l : Option (ListerValue FileValue)). AgedIn listing looks Left failed (so_far ++ event ∷ []) new n l) (sym same) (if_still listing looks Left failed so_far old new event n before happens aged)

  abbrev LeasesAged : Option ℕ → List Event → Watched → ℕ → Type 0
  LeasesAged failed events here n = AgedIn leases_then (leases_looks most) IsListed failed events here n here.journal.leases

  leases_step : (failed : Option ℕ) (so_far : List Event) (old : Watched) (event : Event) (new : Watched) (n : ℕ) (happens : Happens old event new) → Chain Happens first so_far old → IsSoon old event n → LeasesAged failed so_far old n
      → LeasesAged (leases_failed old event new happens failed) (so_far ++ event ∷ []) new (latest n (event ∷ []))
  leases_step failed so_far old _ _ n (acts entry server does) came soon aged =
      still_aged leases_then (leases_looks most) IsListed failed so_far old (record old { server = server }) (acted entry) n old.journal.leases old.journal.leases refl (acts entry server does) aged
  leases_step failed so_far old _ _ n (sees shown journal text saw) came soon aged =
      aged_in leases_then (leases_looks most) IsListed (λ new rows now. leases_begin new.journal.dates rows now most) list_goes_on failed so_far old (record old { journal = journal; text = text }) shown came (sees shown journal text saw) n soon.0 soon.1 soon.2 old.journal.leases journal.leases saw.leases_kept aged
  leases_step failed so_far old _ _ n (notes capitals journal noted) came soon aged =
      still_aged leases_then (leases_looks most) IsListed failed so_far old (record old { journal = journal }) (were_fixed capitals) n old.journal.leases journal.leases (ap (λ (j : Journal ℕ FileValue). j.leases) noted) (notes capitals journal noted) aged

  abbrev HostsAged : Option ℕ → List Event → Watched → ℕ → Type 0
  HostsAged failed events here n = AgedIn hosts_then (hosts_looks most) (IsNotedOrListed most) failed events here n here.journal.hosts

  hosts_step : (failed : Option ℕ) (so_far : List Event) (old : Watched) (event : Event) (new : Watched) (n : ℕ) (happens : Happens old event new) → Chain Happens first so_far old → IsSoon old event n → HostsAged failed so_far old n
      → HostsAged (hosts_failed old event new happens failed) (so_far ++ event ∷ []) new (latest n (event ∷ []))
  hosts_step failed so_far old _ _ n (acts entry server does) came soon aged =
      still_aged hosts_then (hosts_looks most) (IsNotedOrListed most) failed so_far old (record old { server = server }) (acted entry) n old.journal.hosts old.journal.hosts refl (acts entry server does) aged
  hosts_step failed so_far old _ _ n (sees shown journal text saw) came soon aged =
      aged_in hosts_then (hosts_looks most) (IsNotedOrListed most) (λ new rows now. hosts_begin new.journal.fixed rows now most) (hosts_go_on most) failed so_far old (record old { journal = journal; text = text }) shown came (sees shown journal text saw) n soon.0 soon.1 soon.2 old.journal.hosts journal.hosts saw.hosts_kept aged
  hosts_step failed so_far old _ _ n (notes capitals journal noted) came soon aged =
      still_aged hosts_then (hosts_looks most) (IsNotedOrListed most) failed so_far old (record old { journal = journal }) (were_fixed capitals) n old.journal.hosts journal.hosts (ap (λ (j : Journal ℕ FileValue). j.hosts) noted) (notes capitals journal noted) aged

  abbrev StatsReported : Option ℕ → List Event → Watched → ℕ → Type 0
  StatsReported failed events here n = IfSome here.journal.stats (Reported failed events here n)

  stats_step : (failed : Option ℕ) (so_far : List Event) (old : Watched) (event : Event) (new : Watched) (n : ℕ) (happens : Happens old event new) → Chain Happens first so_far old → IsSoon old event n → StatsReported failed so_far old n
      → StatsReported (stats_failed old event new happens failed) (so_far ++ event ∷ []) new (latest n (event ∷ []))
  stats_step failed so_far old _ _ n (acts entry server does) came soon was = reported_still failed so_far old (record old { server = server }) (acted entry) n old.journal.stats (acts entry server does) was
  stats_step failed so_far old _ _ n (sees shown journal text saw) came soon was =
      reports_in failed so_far old (record old { journal = journal; text = text }) shown came (sees shown journal text saw) n old.journal.stats journal.stats saw.stats_kept was
  stats_step failed so_far old _ _ n (notes capitals journal noted) came soon was =
      let happens : Happens old (were_fixed capitals) (record old { journal = journal }) = notes capitals journal noted in
      subst (λ (k : Option (KeeperValue FileValue)). IfSome k (Reported failed (so_far ++ were_fixed capitals ∷ []) (record old { journal = journal }) n)) (sym (ap (λ (j : Journal ℕ FileValue). j.stats) noted))
      (reported_still failed so_far old (record old { journal = journal }) (were_fixed capitals) n old.journal.stats happens was)

  stats_recent : (failed : Option ℕ) (events : List Event) (here : Watched) (n : ℕ) (keeper : Option (KeeperValue FileValue)) → IfSome keeper (Reported failed events here n) → IfSome keeper (λ keeper. HasRecent ReportsStats 1000 begun n failed first events here keeper.text)
  stats_recent failed events here n None was = tt
  stats_recent failed events here n (Some _) (never_looked place low) = (tt, λ none. inl (none_recent n 1000 low))
  stats_recent failed events here n (Some _) (from_look place looked text before was) = text_recent ReportsStats 1000 failed events here n looked text was (omega (arith, before))

  new_keeper_reported : {A : Type 0} (content : Content) (path : Option (String A)) → IfSome (keeper_of (place_of content path)) (Reported None [] first begun)
  new_keeper_reported content None = tt
  new_keeper_reported content (Some path) = never_looked _ (omega arith)

pub leases_are_recent : LeasesAreRecent
leases_are_recent gap most begun first last events chain is steady =
    if_recent gap most begun first leases_then (leases_looks most) IsListed (failed_last leases_failed None first events last chain) events last (latest begun events) last.journal.leases
    (forward gap most begun first leases_failed (LeasesAged gap most begun first) (leases_step gap most begun first) None [] events first last begun refl
    (subst (λ (j : Journal ℕ FileValue). IfSome j.leases (Aged gap most begun first leases_then (leases_looks most) IsListed None [] first begun)) (sym is.journal_is) (new_lister_aged gap most begun first leases_then (leases_looks most) IsListed content.Leases is.a.leases)) chain steady)

pub hosts_are_recent : HostsAreRecent
hosts_are_recent gap most begun first last events chain is steady =
    if_recent gap most begun first hosts_then (hosts_looks most) (IsNotedOrListed most) (failed_last hosts_failed None first events last chain) events last (latest begun events) last.journal.hosts
    (forward gap most begun first hosts_failed (HostsAged gap most begun first) (hosts_step gap most begun first) None [] events first last begun refl
    (subst (λ (j : Journal ℕ FileValue). IfSome j.hosts (Aged gap most begun first hosts_then (hosts_looks most) (IsNotedOrListed most) None [] first begun)) (sym is.journal_is) (new_lister_aged gap most begun first hosts_then (hosts_looks most) (IsNotedOrListed most) content.Hosts is.a.hosts)) chain steady)

pub statistics_are_recent : StatisticsAreRecent
statistics_are_recent gap most begun first last events chain is steady =
    stats_recent gap most begun first (failed_last stats_failed None first events last chain) events last (latest begun events) last.journal.stats
    (forward gap most begun first stats_failed (StatsReported gap most begun first) (stats_step gap most begun first) None [] events first last begun refl
    (subst (λ (j : Journal ℕ FileValue). IfSome j.stats (Reported gap most begun first None [] first begun)) (sym is.journal_is) (new_keeper_reported gap most begun first content.Stats is.a.stats)) chain steady)
