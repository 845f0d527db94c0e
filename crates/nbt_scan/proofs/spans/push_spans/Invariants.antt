use Rattle.std.proofs.Common.{◌≡◌, ◌++◌, take}
use Rattle.std.specs.List.{flat_map}
use Rattle.nbt_scan.specs.Spans.{ips_of}
use Rattle.nbt_scan.proofs.spans.push_spans.Given as goal

abbrev pub invariant-loop-span : goal.invariant-loop-span
invariant-loop-span l = l.ips.items ≡ l.fn.ips.items ++ flat_map ips_of (take l.span-index l.spans)
