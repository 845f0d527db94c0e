use Rattle.std.proofs.Common.{◌≡◌, ◌+◌, take, sum_by}
use Rattle.nbt_scan.specs.Spans.{size_of}
use Rattle.nbt_scan.proofs.spans.are_few.Given as goal

abbrev pub invariant-loop-span : goal.invariant-loop-span
invariant-loop-span l = l.left + sum_by size_of (take l.span-index l.spans) ≡ 65536
