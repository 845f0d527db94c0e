use Rattle.std.proofs.Common.{◌≡◌, ◌++◌, length}
use Rattle.std.specs.List.{flat_map}
use Rattle.nbt_front.specs.Standing.{leases_of}
use Rattle.nbt_front.proofs.names.list_leases_of.Given as goal

abbrev pub invariant-names : goal.invariant-names
invariant-names l = l.rows.items ++ flat_map (leases_of l.end) l.rest ≡ l.fn.rows.items ++ flat_map (leases_of l.end) l.names.entries

abbrev pub decreases-names : goal.decreases-names
decreases-names l = length l.rest
