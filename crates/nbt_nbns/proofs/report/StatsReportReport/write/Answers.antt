use Rattle.std.proofs.Common.{◌≡◌, ◌++◌, ◌∙◌, refl, ap}
use Rattle.std.specs.String.{string_bytes}
use Rattle.nbt_text.proofs.Joining.{OnOk-map}
use Rattle.nbt_log.specs.Stats.{stats_text}
use Rattle.nbt_log.specs.declared.stats.Figures.{Figures}
use Rattle.nbt_nbns.specs.Reports.{figures_of}
use Rattle.nbt_nbns.proofs.report.StatsReportReport.write.Goals as goal

pub returns : goal.returns
returns c =
    let report = c.args.self.now in
    let figures : Figures = record { tally = report.tally; health = report.health; gauges = c.measure.result; since = report.origin.since; silence = c.saturating_sub.result; written = c.second_at.result } in
    let same : figures ≡ figures_of report c.args.server.now c.args.dates.now c.args.now =
    let rows = c.in_ok-rows.ensures in
    let slice = c.as_slice.ensures.value in
    let most = c.rows-most.ensures.value in
    let config = c.config.ensures in
    let table = c.table.ensures.table in
    let gauges = c.measure.ensures in
    let now = c.get.ensures.value in
    let then = c.get-2.ensures.value in
    let silence = c.saturating_sub.ensures in
    let second = c.second_at.ensures in
    cc in
    OnOk-map c.write_stats.result c.write_stats.ensures (λ e.
    (stats_text (figures_of report c.args.server.now c.args.dates.now c.args.now), refl, e ∙ ap (λ (f : Figures). string_bytes c.args.out.now ++ stats_text f) same))
