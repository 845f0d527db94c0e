-- What the private function that puts a datagram to the joiner does.
use Rattle.std.specs.Prelude.{◌≡◌, ◌≢◌, ℕ, List, []}
use Rattle.nbt_name.specs.declared.addr.Addr.{Addr}
use Rattle.nbt_node.specs.Node.{NodeValue}
use Rattle.nbt_dgram.specs.declared.msg_type.Delivery.{Delivery}
use Rattle.nbt_dgram.specs.declared.msg_type.Delivery.TheVariants.{Broadcast}
use Rattle.nbt_dgram.specs.Dgram.{DgramValue}
use Rattle.nbt_dgram.specs.Joiner.{JoinedValue, JoinerValue, Puts}
use Rattle.nbt_dgram.specs.Accepting.{AcceptValue, nothing, Hands}

pub data PutsUp (old : JoinerValue) (now : ℕ) (node : NodeValue) (own : Addr) (d : DgramValue) (delivery : Delivery) : AcceptValue → List ℕ → JoinerValue → Type 0 where
  to_all : delivery ≡ Broadcast → PutsUp old now node own d delivery nothing [] old
  to_some : (joined : JoinedValue) (outcome : AcceptValue) (sent : List ℕ) (new : JoinerValue) → delivery ≢ Broadcast → Puts old now d joined new → Hands node now own d delivery joined outcome sent
      → PutsUp old now node own d delivery outcome sent new
