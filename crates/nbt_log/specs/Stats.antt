-- The statistics of a name server, as Prometheus' text format has them: a table of metrics, each with its name, its type, its help
-- and its samples (our profile).
use Rattle.std.specs.Prelude.{ℕ, List, [], ◌∷◌, ◌++◌, codes}
use Rattle.nbt_port.specs.declared.port.OwnReplies.{OwnReplies}
use Rattle.nbt_log.specs.Metrics.{metric_text, seconds_metric}
use Rattle.nbt_log.specs.declared.gauges.Gauges.{Gauges}
use Rattle.nbt_log.specs.declared.health.Health.{Health}
use Rattle.nbt_log.specs.declared.stats.Figures.{Figures}
use Rattle.nbt_log.specs.declared.tally.OutcomeCounts.{OutcomeCounts}
use Rattle.nbt_log.specs.declared.tally.RefusalCounts.{RefusalCounts}
use Rattle.nbt_log.specs.declared.tally.Tally.{Tally}

abbrev pub counter : List ℕ
counter = codes "counter"

abbrev pub gauge : List ℕ
gauge = codes "gauge"

-- ---- what was counted of the datagrams

abbrev pub requests_text : OutcomeCounts → List ℕ
requests_text counts = metric_text (codes "requests_total") counter (codes "Requests that the server handled, by what they asked for and what came of it.") (
    (codes "{kind=\"registration\",result=\"granted\"}", counts.granted)
    ∷ (codes "{kind=\"registration\",result=\"renewed\"}", counts.renewed)
    ∷ (codes "{kind=\"registration\",result=\"refused\"}", counts.refused)
    ∷ (codes "{kind=\"release\",result=\"released\"}", counts.released)
    ∷ (codes "{kind=\"release\",result=\"not_leased\"}", counts.not_leased)
    ∷ (codes "{kind=\"release\",result=\"refused\"}", counts.not_released)
    ∷ (codes "{kind=\"query\",result=\"found\"}", counts.found)
    ∷ (codes "{kind=\"query\",result=\"not_found\"}", counts.not_found)
    ∷ []
    )

abbrev pub unanswered_text : OutcomeCounts → List ℕ
unanswered_text counts = metric_text (codes "unanswered_requests_total") counter (codes "Requests that came in the silence after the start, and got no reply.") (([], counts.unanswered) ∷ [])

abbrev pub strangers_text : OutcomeCounts → List ℕ
strangers_text counts = metric_text (codes "other_datagrams_total") counter (codes "Datagrams that are no requests to a name server.") (
    (codes "{kind=\"foreign\"}", counts.foreign)
    ∷ (codes "{kind=\"malformed\"}", counts.malformed)
    ∷ (codes "{kind=\"broadcast\"}", counts.broadcast)
    ∷ []
    )

abbrev pub refusals_text : RefusalCounts → List ℕ
refusals_text counts = metric_text (codes "refusals_total") counter (codes "Registrations and releases that were refused, by the reason.") (
    (codes "{reason=\"not_own\"}", counts.not_own)
    ∷ (codes "{reason=\"star\"}", counts.star)
    ∷ (codes "{reason=\"overwrite\"}", counts.overwrite)
    ∷ (codes "{reason=\"active\"}", counts.active)
    ∷ (codes "{reason=\"table_full\"}", counts.table_full)
    ∷ (codes "{reason=\"group_full\"}", counts.group_full)
    ∷ (codes "{reason=\"client_full\"}", counts.client_full)
    ∷ []
    )

abbrev pub own_text : OwnReplies → List ℕ
own_text own = metric_text (codes "own_replies_total") counter (codes "Requests that got their reply before the leases were looked at.") (
    (codes "{result=\"not_allowed\"}", own.not_allowed)
    ∷ (codes "{result=\"fixed_refused\"}", own.fixed_refused)
    ∷ (codes "{result=\"fixed_confirmed\"}", own.fixed_confirmed)
    ∷ (codes "{result=\"fixed_found\"}", own.fixed_found)
    ∷ []
    )

abbrev pub counters_text : Tally → OwnReplies → List ℕ
counters_text tally own = requests_text tally.outcomes ++ unanswered_text tally.outcomes ++ strangers_text tally.outcomes ++ refusals_text tally.refusals ++ own_text own

-- ---- what the leases are

abbrev pub leases_text : Gauges → List ℕ
leases_text gauges = metric_text (codes "leases") gauge (codes "Live leases.") ((codes "{kind=\"unique\"}", gauges.unique) ∷ (codes "{kind=\"group\"}", gauges.groups) ∷ [])
    ++ metric_text (codes "rows_free") gauge (codes "Leases that may still begin before the table is full.") (([], gauges.free) ∷ [])

abbrev pub times_left_text : Gauges → List ℕ
times_left_text gauges = seconds_metric (codes "lease_least_left_seconds") gauge (codes "The least time left of a live lease, 0 without any.") gauges.least_left
    ++ seconds_metric (codes "lease_greatest_left_seconds") gauge (codes "The greatest time left of a live lease, 0 without any.") gauges.greatest_left

abbrev pub gauges_text : Gauges → List ℕ
gauges_text gauges = leases_text gauges ++ times_left_text gauges

-- ---- times

abbrev pub times_text : (since silence written : ℕ) → List ℕ
times_text since silence written = metric_text (codes "start_time_seconds") gauge (codes "When the server began to serve, in seconds since 1970.") (([], since) ∷ [])
    ++ seconds_metric (codes "silence_left_seconds") gauge (codes "How long the silence after the start lasts still.") silence
    ++ metric_text (codes "written_timestamp_seconds") gauge (codes "When these statistics were written, in seconds since 1970.") (([], written) ∷ [])

-- ---- how the devices are, and of which version the program is

abbrev pub port_text : (failures lines_dropped : ℕ) → List ℕ
port_text failures lines_dropped = metric_text (codes "port_failures_total") counter (codes "Calls of the port that failed.") (([], failures) ∷ [])
    ++ metric_text (codes "log_lines_dropped_total") counter (codes "Lines of the log that were dropped, since its reader was slow or it could not be written.") (([], lines_dropped) ∷ [])

abbrev pub state_text : Health → List ℕ
state_text health = metric_text (codes "barred_requests_total") counter (codes "Requests that were dropped, since their client had its changes of that second.") (([], health.barred) ∷ [])
    ++ metric_text (codes "state_syncs_total") counter (codes "How often the state was made durable.") (([], health.syncs) ∷ [])
    ++ seconds_metric (codes "state_sync_seconds_total") counter (codes "How long it took to make the state durable, taken together.") health.sync_milliseconds

abbrev pub build_text : List ℕ
build_text = metric_text (codes "build_info") gauge (codes "Of which version the program is; its value is always 1.") ((codes "{version=\"0.1.0\"}", 1) ∷ [])

abbrev pub devices_text : Health → (lines_dropped : ℕ) → List ℕ
devices_text health lines_dropped = port_text health.failures lines_dropped ++ state_text health ++ build_text

-- ---- all of it

-- the first line, which says what a file is
abbrev pub stats_head : List ℕ
stats_head = codes "# statistics of nbt nbns\n"

abbrev pub stats_text : Figures → List ℕ
stats_text f = stats_head ++ counters_text f.tally f.health.own ++ gauges_text f.gauges ++ times_text f.since f.silence f.written ++ devices_text f.health f.tally.lines_dropped
