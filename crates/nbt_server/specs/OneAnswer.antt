-- The server's rules have one answer.
use Rattle.std.specs.Prelude.{◌≡◌, ℕ, List, Option}
use Rattle.nbt_packet.specs.Message.{MessageValue}
use Rattle.nbt_lease.specs.Lease.{Leases, leases_at, IsSound}
use Rattle.nbt_server.specs.Serving.{ServerValue, ServesOctets}

-- If the leases are sound, octets from one address at one time have one reply, and leave the same leases.
abbrev pub OneReply : Type 0
OneReply = (server : ServerValue) (now ip : ℕ) (octets : List ℕ) (r s : Option MessageValue) (x y : Leases) → IsSound server.table.config now (leases_at now server.table.rows)
    → ServesOctets server now ip octets r x → ServesOctets server now ip octets s y → (r ≡ s) × (x ≡ y)
