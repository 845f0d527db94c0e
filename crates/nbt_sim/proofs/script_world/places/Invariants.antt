use Rattle.std.proofs.Common.{◌≡◌, ◌+◌, ◌<◌, ℕ, Some, length}
use Rattle.std.specs.Prelude.{slice_get}
use Rattle.nbt_sim.specs.Script.{place}
use Rattle.nbt_sim.proofs.script_world.places.Given as goal

abbrev pub invariant-places : goal.invariant-places
invariant-places l = record {
  next : l.ip ≡ 2130706433 + l.addr-index;
  nine : length l.addr-items ≡ 9;
  places : (number : ℕ) → number < l.addr-index → slice_get l.addr-items number ≡ Some (place number);
}
