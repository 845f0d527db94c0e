-- What the lists, the statistics and the counts of a name server say over a whole run (our profile).
use Rattle.std.specs.Prelude.{◌≡◌, ℕ, List, [], ◌∷◌, ◌++◌, Option, Some, None, IfSome}
use Rattle.nbt_port.specs.PortCalls.{Chain}
use Rattle.nbt_port.specs.declared.ahead.Ahead.{Ahead}
use Rattle.nbt_log.specs.Drafts.{ListingValue, leases, hosts, IsListing}
use Rattle.nbt_log.specs.Tallies.{outcome_counted, refused_counted, no_outcomes, no_refusals}
use Rattle.nbt_log.specs.declared.dates.Dates.{Dates}
use Rattle.nbt_log.specs.declared.entry.Entry.{Entry}
use Rattle.nbt_log.specs.declared.tally.OutcomeCounts.{OutcomeCounts}
use Rattle.nbt_log.specs.declared.tally.RefusalCounts.{RefusalCounts}
use Rattle.nbt_nbns.specs.Keeping.{KeeperValue}
use Rattle.nbt_nbns.specs.Listers.{ListerValue}
use Rattle.nbt_nbns.specs.Reports.{SaysStats}
use Rattle.nbt_nbns.specs.Running.{Nbns, StartsAnew, new_journal}
use Rattle.nbt_nbns.specs.Servers.{StartsKept}
use Rattle.nbt_nbns.specs.declared.arguments.StateFolder.{StateFolder}
use Rattle.nbt_nbns.specs.declared.first_line.Manner.{Manner}
use Rattle.nbt_nbns.specs.declared.arguments.NbnsArguments.{NbnsArguments}
use Rattle.nbt_nbns.specs.declared.staying.Shown.{Shown}
use Rattle.nbt_whole.specs.Watched.{Watched, watched_of, Event, was_shown, Happens, told}

-- no turn was shown yet
pub record IsNew (first : Watched) : Type 0 where
  pub a : NbnsArguments
  pub dates : Dates
  pub day : ℕ
  pub start : ℕ
  pub journal_is : first.journal ≡ new_journal a dates day start

-- There was a showing in the run of which this holds: of what was there before it, of what was shown, and of what was there after it.
pub record WasOnce (Holds : (old : Watched) → Shown → (new : Watched) → Type 0) (first : Watched) (events : List Event) (last : Watched) : Type 0 where
  pub before : List Event
  pub shown : Shown
  pub after : List Event
  pub old : Watched
  pub new : Watched
  pub events_are : events ≡ before ++ was_shown shown ∷ after
  pub came : Chain Happens first before old
  pub saw : Happens old (was_shown shown) new
  pub went_on : Chain Happens new after last
  pub holds : Holds old shown new

-- ---- the texts of the places

-- what a lister lists at a showing: the leases by the dates then, or the hosts beside the names that are fixed then
abbrev pub leases_then : Watched → ListingValue
leases_then new = leases new.journal.dates

abbrev pub hosts_then : Watched → ListingValue
hosts_then new = hosts new.journal.fixed

-- the text is that of the rows that the server has at a showing, at its moment
abbrev pub Lists : (Watched → ListingValue) → List ℕ → (old : Watched) → Shown → (new : Watched) → Type 0
Lists listed text old shown new = IsListing (listed new) shown.at old.server.table.rows text

-- the text is that of the statistics of a showing, with its turn counted
abbrev pub ReportsStats : List ℕ → (old : Watched) → Shown → (new : Watched) → Type 0
ReportsStats text old shown new = SaysStats (record { tally = new.journal.tally; health = shown.health; origin = new.journal.origin }) old.server new.journal.dates shown.at text

-- which text a place was given last
abbrev pub listed_in : {L : Type 0} → Option (ListerValue L) → Option (List ℕ)
listed_in None = None
listed_in (Some lister) = lister.text

abbrev pub kept_in : {L : Type 0} → Option (KeeperValue L) → Option (List ℕ)
kept_in None = None
kept_in (Some keeper) = keeper.text

-- ---- the counts

-- what is counted after some entries, one after the other
abbrev pub outcomes_after : OutcomeCounts → List Entry → OutcomeCounts
outcomes_after all [] = all
outcomes_after all (entry ∷ entries) = outcomes_after (outcome_counted entry.is_broadcast entry.outcome all) entries

abbrev pub refusals_after : RefusalCounts → List Entry → RefusalCounts
refusals_after all [] = all
refusals_after all (entry ∷ entries) = refusals_after (refused_counted entry.outcome all) entries

-- ---- over a whole run

-- The counts are those of the entries that were shown, each once. The text that a place was given last is that of one showing.
pub record Says (first : Watched) (events : List Event) (last : Watched) : Type 0 where
  pub outcomes : last.journal.tally.outcomes ≡ outcomes_after no_outcomes (told events)
  pub refusals : last.journal.tally.refusals ≡ refusals_after no_refusals (told events)
  pub leases : IfSome (listed_in last.journal.leases) (λ text. WasOnce (Lists leases_then text) first events last)
  pub hosts : IfSome (listed_in last.journal.hosts) (λ text. WasOnce (Lists hosts_then text) first events last)
  pub stats : IfSome (kept_in last.journal.stats) (λ text. WasOnce (ReportsStats text) first events last)

-- Each run begins so, with a state and without one.
pub record RunsBeginNew : Type 0 where
  pub bare : (a : NbnsArguments) (manner : Manner) (first : Nbns ℕ) → StartsAnew a manner first → IsNew (watched_of first)
  pub kept : (a : NbnsArguments) (state : StateFolder) (manner : Manner) (first : Nbns (Ahead ℕ)) → StartsKept a state manner first → IsNew (watched_of first)

-- So it is after any events, and so at any time of a run.
abbrev pub WhatIsWatchedIsSaid : Type 0
WhatIsWatchedIsSaid = (first last : Watched) (events : List Event) → IsNew first → Chain Happens first events last → Says first events last
