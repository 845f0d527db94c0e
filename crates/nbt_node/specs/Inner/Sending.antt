-- What is due, as `polling` finds it: words of contracts within the crate.
use Rattle.std.specs.Prelude.{◌≡◌, ℕ, Option, Some, None}
use Rattle.nbt_name.specs.Wire.{NameValue}
use Rattle.nbt_packet.specs.Message.{MessageValue, registration, refresh, release}
use Rattle.nbt_node.specs.declared.polling.Sending.{Sending}
use Rattle.nbt_node.specs.declared.state.State.{State}
use Rattle.nbt_node.specs.declared.state.State.TheVariants.{Idle, Asking, Held, Releasing, Resting}
use Rattle.nbt_node.specs.Node.{NodeValue}
use Rattle.nbt_node.specs.Moves.{Move, poll, nothing}

-- the request about a name, by a node with this address, that a state waits for a reply to
abbrev pub request_in : (own : ℕ) → NameValue → State → Option MessageValue
request_in own name (Asking kind ttl last p) = Some (registration (record { id = p.id; name = name; kind = kind; addr = own; ttl = ttl }))
request_in own name (Held kind ttl until renew last (Some p)) = Some (refresh (record { id = p.id; name = name; kind = kind; addr = own; ttl = ttl }))
request_in own name (Held kind ttl until renew last None) = None
request_in own name (Releasing kind last p) = Some (release p.id name kind own)
request_in own name Idle = None
request_in own name (Resting last) = None

-- what is sent about a name in a state by a node with this next id and life, and what is so next
pub record IsSending (life now id : ℕ) (name : NameValue) (state : State) (sending : Sending) : Type 0 where
  pub moves : (node : NodeValue) → node.next_id ≡ id → node.config.life ≡ life
      → (message : MessageValue) × (request_in node.addr.ip name sending.state ≡ Some message)
      × Move node now name state poll sending.state (Some message) nothing sending.next_id
  pub name_is : sending.name ≡ name
