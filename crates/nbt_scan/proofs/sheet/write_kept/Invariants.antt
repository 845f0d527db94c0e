use Rattle.std.proofs.Common.{◌≡◌, ◌++◌, take}
use Rattle.std.specs.List.{flat_map}
use Rattle.std.specs.String.{string_bytes}
use Rattle.nbt_scan.proofs.sheet.write_kept.Given as goal

abbrev pub invariant-loop-host : goal.invariant-loop-host
invariant-loop-host l = string_bytes l.out ≡ string_bytes l.fn.out ++ flat_map (λ host. string_bytes host.text) (take l.host-index l.host-items)
