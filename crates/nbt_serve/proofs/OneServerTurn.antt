-- What a server takes in a turn has one reply.
use Rattle.std.proofs.Common.{ℕ, List, Option}
use Rattle.nbt_port.specs.declared.port.Route.{Route}
use Rattle.nbt_packet.specs.Message.{MessageValue}
use Rattle.nbt_lease.specs.Lease.{leases_at}
use Rattle.nbt_server.specs.OneAnswer.{OneReply}
use Rattle.nbt_server.specs.Serving.{ServerValue}
use Rattle.nbt_server.specs.Calls.{ServerTakes}
use Rattle.nbt_serve.specs.Serving.{is_taken, Turns, takes}
use Rattle.nbt_serve.specs.OneAnswer.{OneServerTurn}

taken : (old new : ServerValue) (now : ℕ) (from : Route) (octets : List ℕ) (reply : Option MessageValue) → Turns old (is_taken now from octets reply) new → ServerTakes old now from.peer.ip octets reply new
taken old _ now from octets reply (takes _ _ _ _ new does) = does

pub one_server_turn : OneReply → OneServerTurn
one_server_turn one old a b now from octets r s sound x y =
    one old now from.peer.ip octets r s (leases_at now a.table.rows) (leases_at now b.table.rows) sound (taken old a now from octets r x).serves (taken old b now from octets s y).serves
