use Rattle.std.proofs.Common.{length}
use Rattle.std.specs.List.{IsDistinct}
use Rattle.std.specs.Map.{keys_of}
use Rattle.nbt_name.specs.Wire.{same_name}
use Rattle.nbt_store.specs.Lines.{whole_lines}
use Rattle.nbt_store.specs.Reading.{HaveRead}
use Rattle.nbt_lease.specs.Inner.Index.{members_of}
use Rattle.nbt_store.proofs.reading.read_changes.Given as goal

abbrev pub invariant-lines : goal.invariant-lines
invariant-lines l = record {
  so_far : HaveRead l.form l.fn.first.sum l.fn.first.times (whole_lines l.octets) (whole_lines l.rest) (members_of l.members.entries) l.now;
  names : IsDistinct same_name (keys_of l.members.entries);
}

abbrev pub decreases-lines : goal.decreases-lines
decreases-lines l = length l.rest
