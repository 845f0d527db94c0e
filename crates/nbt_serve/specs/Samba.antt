-- Requests that are taken for registrations (our profile).
use Rattle.std.specs.Prelude.{◌≡◌, ℕ, ◌+◌, ◌*◌, ◌/◌, ◌%◌, List, slice_index, slice_set}
use Rattle.nbt_name.specs.declared.addr.Kind.TheVariants.{Group}
use Rattle.nbt_packet.specs.declared.message.Registration.{Registration}
use Rattle.nbt_name.specs.Words.{word_at}
use Rattle.nbt_packet.specs.Message.{Requests, registration, overwrite}
use Rattle.nbt_packet.specs.Spelling.{Spells}

-- OPCODE 15, a multi-homed registration: RFC 1002 section 4.2.1.1 doesn't list it
abbrev pub multi_homed : ℕ
multi_homed = 15

-- the flags' first octet with R clear, OPCODE 5 and RD set; AA and TC stay (RFC 1002 section 4.2.1.1)
abbrev pub registration_octet : ℕ → ℕ
registration_octet octet = 0x29 + 2 * (octet / 2 % 4)

-- the same octets but that one, which is the third
abbrev pub as_registration : List ℕ → List ℕ
as_registration octets = slice_set octets 2 (registration_octet (slice_index octets 2))

-- A request of OPCODE 15, or an overwrite of a group, since who joins one takes nothing from anybody. With that octet it
-- spells a registration, which has one entry: an overwrite's own.
pub data IsTaken (octets : List ℕ) (r : Registration) : Type 0 where
  by_opcode : Requests (word_at octets 2) multi_homed → Spells (as_registration octets) (registration r) → IsTaken octets r
  by_group : Spells octets (overwrite r) → r.kind ≡ Group → Spells (as_registration octets) (registration r) → IsTaken octets r
