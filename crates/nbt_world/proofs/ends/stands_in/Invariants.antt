use Rattle.std.proofs.Common.{◌≡◌, ◌≢◌, ℕ, ◌<◌, Some}
use Rattle.std.specs.Prelude.{slice_get}
use Rattle.nbt_name.specs.declared.addr.Addr.{Addr}
use Rattle.nbt_world.proofs.ends.stands_in.Given as goal

abbrev pub invariant-loop-addr : goal.invariant-loop-addr
invariant-loop-addr l = (k : ℕ) → k < l.addr-index → (a : Addr) → slice_get l.addrs k ≡ Some a → a.ip ≢ l.ip
