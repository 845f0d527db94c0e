-- Memory of a program in C: room for a value, or the value that stands there; and what a call does with that value.
use Rattle.std.specs.Prelude.{◌≡◌, Option, Some, None}
use Rattle.std.specs.Borrow.{Fml, RattleType, full_share}
use Rattle.std.specs.Ptr.{Ptr, lies_at, room_at}
use denote.Param.{number}
use Rattle.nbt_dgram.specs.contracts.joiner.Joiner.{the_row as joiner}
use Rattle.nbt_node.specs.contracts.node.Node.{the_row as node}
use Rattle.nbt_c.specs.Sizes.{node_slots}
pub use Rattle.nbt_server.specs.contracts.server.Server.{the_row as server_row}
pub use Rattle.nbt_session.specs.contracts.caller.Caller.{the_row as caller_row}
use Rattle.nbt_session.specs.contracts.listener.Listener.{the_row as listener}
pub use Rattle.nbt_session.specs.contracts.pieces.Pieces.{the_row as pieces_row}

abbrev pub rests_at : (R : RattleType) → Ptr → Option R.Denot → Fml
rests_at R at None = room_at R at
rests_at R at (Some value) = lies_at R full_share at value

-- a node of the library's number of slots, a joiner of 4 slots, and a listener of 14 entries and 8 connections, as the prover describes their types; beside a server, a call and a stream, above
abbrev pub node_row : RattleType
node_row = node (number node_slots)

abbrev pub joiner_row : RattleType
joiner_row = joiner (number 4)

abbrev pub listener_row : RattleType
listener_row = listener (number 14) (number 8)

-- ---- calls

-- what a call makes of the value that stands there
abbrev pub Changes : {V : Type 0} → (before after : Option V) → (V → V → Type 0) → Type 0
Changes {V = V} before after Does = (old : V) → before ≡ Some old → (new : V) × (after ≡ Some new) × Does old new

-- what it says of that value, which stays
abbrev pub Reads : {V : Type 0} → (before after : Option V) → (V → Type 0) → Type 0
Reads {V = V} before after Says = (it : V) → before ≡ Some it → (after ≡ Some it) × Says it
