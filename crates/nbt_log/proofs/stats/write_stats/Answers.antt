use Rattle.std.specs.String.{string_bytes}
use Rattle.nbt_text.proofs.Joining.{OnOk-map, five_parts}
use Rattle.nbt_log.specs.Stats.{counters_text, devices_text, gauges_text, stats_head, times_text}
use Rattle.nbt_log.proofs.stats.write_stats.Goals as goal

pub returns : goal.returns
returns c =
    let f = c.args.figures.now in
    OnOk-map c.write_devices.result c.write_devices.ensures (λ e.
    five_parts (string_bytes c.args.out.now) stats_head (counters_text f.tally f.health.own) (gauges_text f.gauges) (times_text f.since f.silence f.written) (devices_text f.health f.tally.lines_dropped) _ _ _ _ _
    c.in_ok-push_str.ensures.bytes c.in_ok-write_counters.ensures c.in_ok-write_gauges.ensures c.in_ok-write_times.ensures e)
