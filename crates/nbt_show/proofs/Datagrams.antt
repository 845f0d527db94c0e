-- Where FLAGS stands in a datagram, and where it has no names.
use Rattle.std.proofs.Common.{◌≡◌, ℕ, ◌≤◌, ◌<◌, List, [], length, refl, arith}
use Rattle.nbt_name.specs.Wire.{NameValue}
use Rattle.nbt_dgram.specs.declared.dgram.Names.{Names}
use Rattle.nbt_dgram.specs.declared.dgram.Part.{Part}
use Rattle.nbt_dgram.specs.declared.dgram.Part.TheVariants.{First, Later}
use Rattle.nbt_dgram.specs.declared.msg_type.MsgType.{MsgType}
use Rattle.nbt_dgram.specs.declared.msg_type.MsgType.TheVariants as types
use Rattle.nbt_dgram.specs.Dgram.{DgramValue, DgramIs, type_of}
use Rattle.nbt_dgram.specs.Numbers.{head_size}
use Rattle.nbt_show.specs.DgramText.{PrintsPart, without_names}

ten_at_least : (t : MsgType) → 10 ≤ head_size t
ten_at_least (types.Data delivery) = omega arith
ten_at_least types.Error = omega arith
ten_at_least (types.Lookup l) = omega arith

-- FLAGS is among the octets of a datagram
pub flags_there : (octets : List ℕ) (d : DgramValue) (n : ℕ) → DgramIs octets d n → 1 < length octets
flags_there octets d n is = let least = ten_at_least (type_of d.body) in let head = is.head in omega (arith, least, head)

pub no_names : (PrintsOne : NameValue → List ℕ → Type 0) (from to : List ℕ) (part : Part) → ((names : Names) → part ≡ First names → ⊥) → PrintsPart PrintsOne from to part []
no_names PrintsOne from to (First names) none = absurd (none names refl)
no_names PrintsOne from to (Later offset) none = without_names offset
