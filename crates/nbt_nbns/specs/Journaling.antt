-- The log of a server that is watched, and the files about it (our profile).
use Rattle.std.specs.Prelude.{◌≡◌, ◌≢◌, ℕ, ◌-◌, List, Option, Some, None}
use Rattle.nbt_lease.specs.Lease.{Rows}
use Rattle.nbt_server.specs.Serving.{ServerValue}
use Rattle.nbt_log.specs.Dates.{followed}
use Rattle.nbt_log.specs.declared.dates.Dates.{Dates}
use Rattle.nbt_log.specs.Drafts.{ListingValue, leases, hosts}
use Rattle.nbt_log.specs.Tallies.{counted}
use Rattle.nbt_nbns.specs.Keeping.{KeeperValue, Keeps}
use Rattle.nbt_nbns.specs.Listers.{ListerValue, ListsOn}
use Rattle.nbt_nbns.specs.Logging.{LoggerValue, Prints, PrintsOrDrops}
use Rattle.nbt_nbns.specs.Reports.{SaysStats}
use Rattle.nbt_nbns.specs.declared.journal.Journal.{Journal}
use Rattle.nbt_nbns.specs.declared.keeper.Kept.{Kept}
use Rattle.nbt_nbns.specs.declared.staying.Shown.{Shown}

-- Where there is a log, it has the line of what is shown now, if that is printed. Where memory was refused, or the log can't be
-- written, that line may be dropped, and then it is counted.
pub data LogsIn (dates : Dates) (shown : Shown) (old_text : Option (List ℕ)) : (old new : Option LoggerValue) → (text : Option (List ℕ)) → Type 0 where
  no_log : LogsIn dates shown old_text None None old_text
  logged : (old new : LoggerValue) (text : Option (List ℕ)) → Prints old dates shown.at shown.entry old_text new text → LogsIn dates shown old_text (Some old) (Some new) text
  was_refused : (old new : LoggerValue) (text : Option (List ℕ)) → PrintsOrDrops old dates shown.at shown.entry old_text new text → LogsIn dates shown old_text (Some old) (Some new) text

-- Where a text is kept, of which `IsText` says what it is, it is looked at.
pub data KeepsIn {L : Type 0} (puts refuses : L → List ℕ → L → Type 0) (IsText : List ℕ → Type 0) (now : ℕ) : (old new : Option (KeeperValue L)) → Type 0 where
  not_kept : KeepsIn puts refuses IsText now None None
  looked : (old : KeeperValue L) (kept : Kept) (new : KeeperValue L) → Keeps puts refuses IsText now old kept new → KeepsIn puts refuses IsText now (Some old) (Some new)

-- Where a listing of these rows is kept, they are looked at.
pub data ListsIn {L : Type 0} (puts refuses : L → List ℕ → L → Type 0) (listing : ListingValue) (rows : Rows) (now : ℕ) : (old new : Option (ListerValue L)) → Type 0 where
  not_listed : ListsIn puts refuses listing rows now None None
  listed : (old : ListerValue L) (kept : Kept) (new : ListerValue L) → ListsOn puts refuses listing rows now old kept new → ListsIn puts refuses listing rows now (Some old) (Some new)

-- how many lines a log dropped of which no note tells yet
abbrev pub dropped_of : Option LoggerValue → ℕ
dropped_of None = 0
dropped_of (Some logger) = logger.outbox.dropped

-- The time of day is read once for all turns of one moment, and moments are dated by it.
pub data FollowsDay {D : Type 0} (tells : D → ℕ → D → Type 0) (at : ℕ) (old_day : D) (old_dates : Dates) (old_read : ℕ) (day : D) (dates : Dates) (read : ℕ) : Type 0 where
  was_read : old_read ≡ at → day ≡ old_day → dates ≡ old_dates → read ≡ at → FollowsDay tells at old_day old_dates old_read day dates read
  is_read : old_read ≢ at → (time : ℕ) → tells old_day time day → dates ≡ followed old_dates at time → read ≡ at → FollowsDay tells at old_day old_dates old_read day dates read

-- Moments are dated by the time of day. The turn is logged and counted, with the lines that the log dropped in it, and then
-- the list of leases, the hosts and the statistics are kept.
pub record Journals {D L : Type 0} (tells : D → ℕ → D → Type 0) (puts refuses : L → List ℕ → L → Type 0)
    (old : Journal D L) (server : ServerValue) (shown : Shown) (old_text : Option (List ℕ)) (new : Journal D L) (text : Option (List ℕ)) : Type 0 where
  pub day_followed : FollowsDay tells shown.at old.day old.dates old.day_read new.day new.dates new.day_read
  pub logs : LogsIn new.dates shown old_text old.log new.log text
  pub tally_is : new.tally ≡ counted shown.entry (dropped_of new.log - dropped_of old.log) old.tally
  pub origin_is : new.origin ≡ old.origin
  pub leases_kept : ListsIn puts refuses (leases new.dates) server.table.rows shown.at old.leases new.leases
  pub fixed_are : new.fixed ≡ old.fixed
  pub hosts_kept : ListsIn puts refuses (hosts new.fixed) server.table.rows shown.at old.hosts new.hosts
  pub stats_kept : KeepsIn puts refuses (SaysStats (record { tally = new.tally; health = shown.health; origin = new.origin }) server new.dates shown.at) shown.at old.stats new.stats
