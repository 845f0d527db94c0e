-- What a name server has done, counted: each datagram in one row, by what it asked for and what came of it (our profile).
use Rattle.std.specs.Prelude.{ℕ, ◌+◌, ◌-◌, ◌^◌, min, Bool, true, false, Option, Some, None}
use Rattle.nbt_log.specs.declared.entry.Entry.{Entry}
use Rattle.nbt_server.specs.declared.outcome.Outcome.{Outcome}
use Rattle.nbt_server.specs.declared.outcome.Outcome.TheVariants as o
use Rattle.nbt_server.specs.declared.outcome.Refusal.{Refusal}
use Rattle.nbt_server.specs.declared.outcome.Refusal.TheVariants as why
use Rattle.nbt_log.specs.declared.tally.OutcomeCounts.{OutcomeCounts}
use Rattle.nbt_log.specs.declared.tally.RefusalCounts.{RefusalCounts}
use Rattle.nbt_log.specs.declared.tally.Tally.{Tally}

-- both together, of 2^64 - 1 at most
abbrev pub sum_of : ℕ → ℕ → ℕ
sum_of a b = min (a + b) (2 ^ 64 - 1)

abbrev pub one_more : ℕ → ℕ
one_more count = sum_of count 1

-- ---- outcomes

abbrev pub no_outcomes : OutcomeCounts
no_outcomes = record { granted = 0; renewed = 0; refused = 0; released = 0; not_leased = 0; not_released = 0; found = 0; not_found = 0; unanswered = 0; foreign = 0; malformed = 0; broadcast = 0 }

-- a broadcast is counted as one, whatever its octets are
abbrev pub foreign_counted : (broadcast : Bool) → OutcomeCounts → OutcomeCounts
foreign_counted true all = record all { broadcast = one_more all.broadcast }
foreign_counted false all = record all { foreign = one_more all.foreign }

abbrev pub malformed_counted : (broadcast : Bool) → OutcomeCounts → OutcomeCounts
malformed_counted true all = record all { broadcast = one_more all.broadcast }
malformed_counted false all = record all { malformed = one_more all.malformed }

abbrev pub outcome_counted : (broadcast : Bool) → Outcome → OutcomeCounts → OutcomeCounts
outcome_counted broadcast (o.Granted claim seconds) all = record all { granted = one_more all.granted }
outcome_counted broadcast (o.Renewed claim seconds) all = record all { renewed = one_more all.renewed }
outcome_counted broadcast (o.Refused claim refusal) all = record all { refused = one_more all.refused }
outcome_counted broadcast (o.Released claim) all = record all { released = one_more all.released }
outcome_counted broadcast (o.NotLeased claim) all = record all { not_leased = one_more all.not_leased }
outcome_counted broadcast (o.NotReleased claim refusal) all = record all { not_released = one_more all.not_released }
outcome_counted broadcast (o.Found name) all = record all { found = one_more all.found }
outcome_counted broadcast (o.NotFound name) all = record all { not_found = one_more all.not_found }
outcome_counted broadcast (o.Silent name) all = record all { unanswered = one_more all.unanswered }
outcome_counted broadcast o.ForNodes all = foreign_counted broadcast all
outcome_counted broadcast o.NoMessage all = malformed_counted broadcast all

-- ---- refusals

abbrev pub no_refusals : RefusalCounts
no_refusals = record { not_own = 0; star = 0; overwrite = 0; active = 0; table_full = 0; group_full = 0; client_full = 0 }

abbrev pub refusal_counted : Refusal → RefusalCounts → RefusalCounts
refusal_counted why.NotOwn all = record all { not_own = one_more all.not_own }
refusal_counted why.Star all = record all { star = one_more all.star }
refusal_counted why.Overwrite all = record all { overwrite = one_more all.overwrite }
refusal_counted (why.Active holder) all = record all { active = one_more all.active }
refusal_counted why.TableFull all = record all { table_full = one_more all.table_full }
refusal_counted why.GroupFull all = record all { group_full = one_more all.group_full }
refusal_counted why.ClientFull all = record all { client_full = one_more all.client_full }

-- an outcome that is a refusal, of whatever was asked for
abbrev pub refused_counted : Outcome → RefusalCounts → RefusalCounts
refused_counted (o.Refused claim refusal) all = refusal_counted refusal all
refused_counted (o.NotReleased claim refusal) all = refusal_counted refusal all
refused_counted outcome all = all

-- ---- all of it

abbrev pub no_tally : Tally
no_tally = record { outcomes = no_outcomes; refusals = no_refusals; lines_dropped = 0 }

-- A turn is counted: its datagram, if one came and wasn't lost, and the lines of the log that were dropped in it.
abbrev pub counted : Option Entry → (dropped : ℕ) → Tally → Tally
counted None dropped all = record all { lines_dropped = sum_of all.lines_dropped dropped }
counted (Some entry) dropped all = record {
  outcomes = outcome_counted entry.is_broadcast entry.outcome all.outcomes;
  refusals = refused_counted entry.outcome all.refusals;
  lines_dropped = sum_of all.lines_dropped dropped;
}
