-- The texts about a name server that can be kept (our profile).
use Rattle.std.specs.Prelude.{◌≡◌, ℕ, ◌-◌, List}
use Rattle.nbt_log.specs.Dates.{second_at}
use Rattle.nbt_log.specs.declared.dates.Dates.{Dates}
use Rattle.nbt_log.specs.Gauges.{gauges_of}
use Rattle.nbt_log.specs.Stats.{stats_text}
use Rattle.nbt_log.specs.declared.stats.Figures.{Figures}
use Rattle.nbt_server.specs.Serving.{ServerValue}
use Rattle.nbt_nbns.specs.declared.report.StatsReport.{StatsReport}

-- what the statistics say of a server at a moment
abbrev pub figures_of : StatsReport → ServerValue → Dates → (now : ℕ) → Figures
figures_of report server dates now = record {
  tally = report.tally;
  health = report.health;
  gauges = gauges_of now server.table.config.rows server.table.rows;
  since = report.origin.since;
  silence = report.origin.speaks - now;
  written = second_at dates now;
}

abbrev pub SaysStats : StatsReport → ServerValue → Dates → (now : ℕ) → List ℕ → Type 0
SaysStats report server dates now text = text ≡ stats_text (figures_of report server dates now)
