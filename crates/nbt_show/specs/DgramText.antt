-- What is printed of the octets of one datagram (our profile).
use Rattle.std.specs.Prelude.{ℕ, List, [], ◌∷◌, ◌++◌, Bool, true, false, codes}
use Rattle.std.specs.Fmt.{decimal}
use Rattle.hex.specs.Hex.{encode_lower}
use Rattle.nbt_name.specs.Wire.{NameValue}
use Rattle.nbt_dgram.specs.declared.dgram.Names.{Names}
use Rattle.nbt_dgram.specs.declared.dgram.Part.{Part}
use Rattle.nbt_dgram.specs.declared.dgram.Part.TheVariants.{First, Later}
use Rattle.nbt_dgram.specs.declared.fault.DgramFault.{DgramFault}
use Rattle.nbt_dgram.specs.declared.msg_type.Lookup.{Lookup}
use Rattle.nbt_dgram.specs.Dgram.{FragmentValue, BodyValue, fragment, error, lookup, DgramValue, DgramIs, FaultIs, type_of}
use Rattle.nbt_dgram.specs.Fields.{octet_at}
use Rattle.nbt_dgram.specs.Numbers.{type_number, fault_word}
use Rattle.nbt_dgram.specs.Text.{offset_of}
use Rattle.nbt_text.specs.Address.{address_text}
use Rattle.nbt_text.specs.NameText.{PrintsName}
use Rattle.nbt_show.specs.PacketText.{data_text, four_digits}
use Rattle.nbt_text.specs.Lines.{newline}

-- an octet, in two hexadecimal digits
abbrev pub two_digits : ℕ → List ℕ
two_digits octet = encode_lower (octet ∷ [])

abbrev pub name_line : (label name : List ℕ) → List ℕ
name_line label name = label ++ name ++ newline

-- The names of a first fragment have a line each, with these labels, as this relation prints them.
pub data PrintsPart (PrintsOne : NameValue → List ℕ → Type 0) (from to : List ℕ) : Part → List ℕ → Type 0 where
  with_names : (names : Names) (source destination : List ℕ) → PrintsOne names.source source → PrintsOne names.destination destination
      → PrintsPart PrintsOne from to (First names) (name_line from source ++ name_line to destination)
  without_names : (offset : ℕ) → PrintsPart PrintsOne from to (Later offset) []

-- the line of a fragment's data
abbrev pub data_line : FragmentValue → List ℕ
data_line f = codes "offset " ++ decimal (offset_of f.part) ++ codes " data " ++ data_text f.payload ++ newline

-- A fragment has its names, and how many octets stand before its data; an error its code; a lookup its name.
pub data PrintsBody : BodyValue → List ℕ → Type 0 where
  of_fragment : (f : FragmentValue) (names : List ℕ) → PrintsPart PrintsName (codes "source ") (codes "destination ") f.part names
      → PrintsBody (fragment f) (names ++ data_line f)
  of_error : (code : ℕ) → PrintsBody (error code) (codes "error " ++ two_digits code ++ newline)
  of_lookup : (l : Lookup) (n : NameValue) (name : List ℕ) → PrintsName n name → PrintsBody (lookup l n) (name_line (codes "destination ") name)

-- the line of the octets that each datagram begins with
abbrev pub head_line : (flags : ℕ) → DgramValue → List ℕ
head_line flags d = codes "type " ++ two_digits (type_number (type_of d.body)) ++ codes " flags " ++ two_digits flags
    ++ codes " id " ++ four_digits d.id ++ codes " from " ++ address_text d.source ++ newline

-- What is printed of octets, and whether a datagram stands there: its parts, with its second octet as the flags, and
-- how many octets it takes, or its fault.
pub data PrintsDgram (octets : List ℕ) : Bool → List ℕ → Type 0 where
  dgram_stands : (d : DgramValue) (taken : ℕ) (body : List ℕ) → DgramIs octets d taken → PrintsBody d.body body
      → PrintsDgram octets true (head_line (octet_at octets 1) d ++ body ++ (codes "length " ++ decimal taken ++ newline))
  fault_stands : (fault : DgramFault) → FaultIs octets fault
      → PrintsDgram octets false (codes "fault " ++ fault_word fault.kind ++ codes " at " ++ decimal fault.place ++ newline)
