-- What a request asks for, by what its octets spell before they are changed.
use Rattle.std.specs.Prelude.{◌≡◌, List, ℕ}
use Rattle.nbt_name.specs.declared.addr.Kind.TheVariants.{Group}
use Rattle.nbt_packet.specs.declared.message.Registration.{Registration}
use Rattle.nbt_name.specs.Words.{word_at}
use Rattle.nbt_packet.specs.Message.{Requests, overwrite}
use Rattle.nbt_packet.specs.Spelling.{Spells}
use Rattle.nbt_serve.specs.declared.samba.Asked.{Asked}
use Rattle.nbt_serve.specs.declared.samba.Asked.TheVariants.{MultiHomed, Overwrite}
use Rattle.nbt_serve.specs.Samba.{multi_homed}

-- OPCODE 15, or an overwrite of this group
abbrev pub Asks : List ℕ → Asked → Type 0
Asks octets MultiHomed = Requests (word_at octets 2) multi_homed
Asks octets (Overwrite r) = Spells octets (overwrite r) × (r.kind ≡ Group) × (¬ Requests (word_at octets 2) multi_homed)

-- any registration will do, or this one alone
abbrev pub Meets : Asked → Registration → Type 0
Meets MultiHomed r = Unit {0}
Meets (Overwrite group) r = group ≡ r
