use Rattle.std.proofs.Common.{◌≡◌, ◌++◌, drop, map}
use Rattle.std.specs.String.{string_bytes}
use Rattle.nbt_log.specs.Metrics.{sample_of, samples_text}
use Rattle.nbt_log.proofs.metrics.write_samples.Given as goal

abbrev pub invariant-loop-sample : goal.invariant-loop-sample
invariant-loop-sample l = string_bytes l.out ++ samples_text l.name (map sample_of (drop l.sample-index l.samples)) ≡ string_bytes l.fn.out ++ samples_text l.fn.name (map sample_of l.fn.samples)
