use Rattle.std.proofs.Common.{◌≡◌, ◌+◌, ◌*◌, ◌++◌, length, take}
use Rattle.nbt_waits.specs.Sending.{entries_of}
use Rattle.nbt_waits.proofs.sending.entries_with.Given as goal

abbrev pub invariant-loop-addr : goal.invariant-loop-addr
invariant-loop-addr l = record {
  entries : l.entries.items ≡ l.first ++ entries_of (take l.addr-index l.addr-items);
  length : length l.entries.items ≡ 6 + 6 * l.addr-index;
}
