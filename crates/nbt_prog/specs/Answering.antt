-- What `answer` prints (our profile).
use Rattle.std.specs.Prelude.{◌≡◌, ℕ, List, [], Option, Some, None, Ok, codes}
use Rattle.hex.specs.Hex.{decode_of, encode_lower}
use Rattle.nbt_name.specs.declared.addr.Addr.{Addr}
use Rattle.nbt_packet.specs.Message.{MessageValue}
use Rattle.nbt_packet.specs.Text.{text}
use Rattle.nbt_lease.specs.Config.{config_of}
use Rattle.nbt_server.specs.Calls.{ServerTakes}
use Rattle.nbt_server.specs.Serving.{ServerValue}
use Rattle.nbt_text.specs.Address.{SpellsAddress}
use Rattle.nbt_text.specs.Lines.{one_line}
use Rattle.nbt_prog.specs.Texts.{IsAddress, IsHexadecimal}

-- a new server: a datagram lives 1,000 ms, a lease at most 60 s, it keeps as many of them as a server may, and it started at 0
abbrev pub new_server : ServerValue
new_server = record { start = 0; last = 0; table = record { config = config_of 1000 60 4096; last = 0; rows = [] }; client_rows = None }

-- the reply in hexadecimal, or the word for no reply
abbrev pub answer_text : Option MessageValue → List ℕ
answer_text (Some reply) = one_line (encode_lower (text reply))
answer_text None = one_line (codes "none")

-- the arguments can be read: FROM spells an address, and HEX octets
abbrev pub AnswerArguments : (from hex : List ℕ) → Type 0
AnswerArguments from hex = IsAddress from × IsHexadecimal hex

-- what is printed: the reply of a new server to the octets that HEX spells, from the address that FROM spells, at this time
pub record Answers (from hex : List ℕ) (at : ℕ) (printed : List ℕ) : Type 0 where
  pub sender : Addr
  pub octets : List ℕ
  pub reply : Option MessageValue
  pub after : ServerValue
  pub from_is : SpellsAddress from sender
  pub hex_is : decode_of hex ≡ Ok octets
  pub takes : ServerTakes new_server at sender.ip octets reply after
  pub printed_is : printed ≡ answer_text reply
