-- How many octets of memory each object takes, and how that memory is aligned: the numbers of the header (our profile).
use Rattle.std.specs.Prelude.{ℕ}

-- how many slots a node has: 14, or 1 or 4 where the library is made for so many
abbrev pub node_slots : ℕ
node_slots = 14

abbrev pub node_size : ℕ
node_size = 4944

abbrev pub joiner_size : ℕ
joiner_size = 6344

abbrev pub stream_size : ℕ
stream_size = 584

abbrev pub caller_size : ℕ
caller_size = 512

abbrev pub listener_size : ℕ
listener_size = 7416

-- beside the memory that a server asks malloc for
abbrev pub server_size : ℕ
server_size = 336

-- of each of them
abbrev pub object_align : ℕ
object_align = 8
