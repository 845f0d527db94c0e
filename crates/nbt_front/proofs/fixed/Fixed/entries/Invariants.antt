use Rattle.std.proofs.Common.{◌≡◌, ◌*◌, length, take}
use Rattle.std.specs.List.{flat_map}
use Rattle.nbt_packet.specs.Text.{entry}
use Rattle.nbt_front.proofs.fixed.Fixed.entries.Given as goal

abbrev pub invariant-loop-addr : goal.invariant-loop-addr
invariant-loop-addr l = record {
  so_far : l.entries.items ≡ flat_map (λ addr. entry l.self.kind addr) (take l.addr-index l.addr-items);
  counted : length l.entries.items ≡ 6 * l.addr-index;
}
