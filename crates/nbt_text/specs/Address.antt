-- An address as text (our profile).
use Rattle.std.specs.Prelude.{◌≡◌, ℕ, ◌/◌, ◌%◌, ◌^◌, ◌<◌, ◌⊎◌, List, ◌++◌, slice_index, codes}
use Rattle.std.specs.Fmt.{decimal}
use Rattle.nbt_name.specs.declared.addr.Addr.{Addr}
use Rattle.nbt_text.specs.Lines.{HasNo}

-- the four octets in decimal, the first one highest, with a dot between two
abbrev pub dotted : ℕ → List ℕ
dotted ip = decimal (ip / 2 ^ 24) ++ codes "." ++ decimal (ip / 2 ^ 16 % 256) ++ codes "." ++ decimal (ip / 2 ^ 8 % 256)
    ++ codes "." ++ decimal (ip % 256)

-- the address of an entry of six octets, behind its two of flags (RFC 1002 section 4.2.13)
abbrev pub entry_address : List ℕ → List ℕ
entry_address e = decimal (slice_index e 2) ++ codes "." ++ decimal (slice_index e 3) ++ codes "." ++ decimal (slice_index e 4)
    ++ codes "." ++ decimal (slice_index e 5)

-- the text of an address, as in 10.0.0.1:137
abbrev pub address_text : Addr → List ℕ
address_text a = dotted a.ip ++ codes ":" ++ decimal a.port

-- The text is that of the address, whose numbers are of 32 bits and of 16.
pub record SpellsAddress (text : List ℕ) (address : Addr) : Type 0 where
  pub ip_fits : address.ip < 2 ^ 32
  pub port_fits : address.port < 2 ^ 16
  pub text_is : text ≡ address_text address

-- As people write it: A.B.C.D:PORT, or A.B.C.D, behind which the usual port then stands.
abbrev pub SpellsUsual : (usual : List ℕ) → List ℕ → Addr → Type 0
SpellsUsual usual text address = ((¬ HasNo 0x3A text) × SpellsAddress text address) ⊎ (HasNo 0x3A text × SpellsAddress (text ++ usual) address)

-- at port 137 (RFC 1002 section 4.2.1)
abbrev pub SpellsEnd : List ℕ → Addr → Type 0
SpellsEnd text address = SpellsUsual (codes ":137") text address

-- the own address of who asks alone, at port 0, for which the system chooses one
abbrev pub SpellsSource : List ℕ → Addr → Type 0
SpellsSource text address = SpellsUsual (codes ":0") text address
