-- What a lookup asks, and of which end (RFC 1002 sections 4.2.12 and 4.2.17).
use Rattle.std.specs.Prelude.{ℕ, List, Option}
use Rattle.nbt_name.specs.declared.addr.Addr.{Addr}
use Rattle.nbt_node.specs.declared.fault.LookupFault.{LookupFault}
use Rattle.nbt_node.specs.declared.lookup.Wanted.TheVariants as w
use Rattle.nbt_node.specs.Node.{NodeValue}
use Rattle.nbt_node.specs.Calls.{resolve_refusal, status_refusal, Opens}
use Rattle.nbt_client.specs.declared.question.Question.{Question}
use Rattle.nbt_client.specs.declared.question.Question.TheVariants.{Holders, Names}

-- why the node asks nothing
abbrev pub refusal_of : NodeValue → ℕ → Question → Option LookupFault
refusal_of node now (Holders server name) = resolve_refusal node now name
refusal_of node now (Names to name) = status_refusal node now

-- the end that is asked: the name server for who holds a name, or the end whose names are asked for
abbrev pub end_of : Question → Addr
end_of (Holders server name) = server
end_of (Names to name) = to

-- The node opens the lookup, and the octets are its request. A reply to a query counts from the node's own server alone.
abbrev pub Begins : NodeValue → ℕ → Question → NodeValue → List ℕ → Type 0
Begins old now (Holders server name) new octets = Opens old now name old.server w.Entries new octets
Begins old now (Names to name) new octets = Opens old now name to w.Names new octets
