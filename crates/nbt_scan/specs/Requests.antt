-- What a scan asks (RFC 1002 section 4.2.17).
use Rattle.std.specs.Prelude.{ℕ, List, [], ◌∷◌, replicate}
use Rattle.nbt_name.specs.Wire.{name_of}
use Rattle.nbt_packet.specs.Message.{status_request}
use Rattle.nbt_packet.specs.Text.{text}

-- a node status request for `*`, without a scope
abbrev pub request_text : (id : ℕ) → List ℕ
request_text id = text (status_request id (name_of (0x2A ∷ replicate 15 0) []))
