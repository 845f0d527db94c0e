-- A server's turn has one answer.
use Rattle.std.specs.Prelude.{◌≡◌, ℕ, List, Option}
use Rattle.nbt_port.specs.declared.port.Route.{Route}
use Rattle.nbt_packet.specs.Message.{MessageValue}
use Rattle.nbt_lease.specs.Lease.{leases_at, IsSound}
use Rattle.nbt_server.specs.Serving.{ServerValue}
use Rattle.nbt_serve.specs.Serving.{is_taken, Turns}

-- Of sound leases, what a server takes in a turn has one reply, and leaves the same leases.
abbrev pub OneServerTurn : Type 0
OneServerTurn = (old a b : ServerValue) (now : ℕ) (from : Route) (octets : List ℕ) (r s : Option MessageValue) → IsSound old.table.config now (leases_at now old.table.rows)
    → Turns old (is_taken now from octets r) a → Turns old (is_taken now from octets s) b → (r ≡ s) × (leases_at now a.table.rows ≡ leases_at now b.table.rows)
