use Rattle.std.proofs.Common.{◌≡◌, ◌≤◌, length}
use Rattle.nbt_confirm.specs.Inquiries.{listed_first}
use Rattle.nbt_confirm.proofs.response.listed_in.Given as goal

abbrev pub invariant-loop-n : goal.invariant-loop-n
invariant-loop-n l = record {
  so_far : l.addrs.items ≡ listed_first l.kind l.entries l.n;
  counted : length l.addrs.items ≤ l.n;
}
