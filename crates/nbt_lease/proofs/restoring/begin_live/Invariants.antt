use Rattle.std.proofs.Common.{◌≡◌, take}
use Rattle.nbt_lease.proofs.Common.{IsDistinct, keys_of, NameValue, same_name, leases_at, AreSound, members_of}
use Rattle.nbt_lease.proofs.restoring.begin_live.Given as goal

abbrev pub invariant-loop-place : goal.invariant-loop-place
invariant-loop-place l =
    IsDistinct same_name (keys_of l.index) × (members_of l.index ≡ leases_at l.now (take l.place l.rows)) × ((q : NameValue) → AreSound l.latest (leases_at l.now (take l.place l.rows) q))
