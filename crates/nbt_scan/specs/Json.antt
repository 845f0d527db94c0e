-- A host that replied, as an object of JSON (RFC 8259; the members are our profile's).
use Rattle.std.specs.Prelude.{◌≡◌, ◌<◌, ℕ, nat_eq, nat_le, ◌||◌, ◌&&◌, if◌then◌else◌, List, [], ◌∷◌, ◌++◌, length, take, Option, Some, None, codes}
use Rattle.std.specs.List.{flat_map}
use Rattle.nbt_text.specs.Address.{dotted}
use Rattle.nbt_text.specs.Lines.{newline}
use Rattle.nbt_text.specs.SuffixedNames.{PrintsOctets}
use Rattle.nbt_show.specs.Rows.{PrintsRows}
use Rattle.nbt_scan.specs.declared.host.Host.{Host}
use Rattle.nbt_text.specs.UnitIds.{unit_digits}
use Rattle.nbt_scan.specs.Cells.{PrintsStem}

-- A quotation mark and a backslash stand behind a backslash (RFC 8259 section 7). What isn't a character of ASCII that can be seen, or a
-- space, is a question mark; no name is printed with such an octet.
abbrev pub escaped : ℕ → List ℕ
escaped octet = if nat_eq octet 0x22 || nat_eq octet 0x5C then 0x5C ∷ octet ∷ [] else if nat_le 0x20 octet && nat_le octet 0x7E then octet ∷ [] else 0x3F ∷ []

-- a text between quotation marks
abbrev pub string : List ℕ → List ℕ
string text = (0x22 ∷ []) ++ flat_map escaped text ++ 0x22 ∷ []

-- a member: `{` or `,`, its name, a colon and its value
abbrev pub member : (before name value : List ℕ) → List ℕ
member before name value = before ++ string name ++ codes ":" ++ value

-- one that isn't the first
abbrev pub next : (name value : List ℕ) → List ℕ
next name value = member (codes ",") name value

-- a name without its suffix, and null where there is none
abbrev pub PrintsValue : Option (List ℕ) → (text : List ℕ) → Type 0
PrintsValue None text = text ≡ codes "null"
PrintsValue (Some name) text = (word : List ℕ) × PrintsStem (take 16 name) word × (text ≡ string word)

abbrev pub server_value : Option (List ℕ) → List ℕ
server_value None = codes "false"
server_value (Some name) = codes "true"

abbrev pub unit_value : Option (List ℕ) → List ℕ
unit_value None = codes "null"
unit_value (Some unit) = string (unit_digits unit)

-- a name with its suffix, as `"FILER#20"`, and behind a comma
abbrev pub IsName : (name text : List ℕ) → Type 0
IsName name text = (word : List ℕ) × PrintsOctets (take 16 name) word × (text ≡ string word)

abbrev pub IsNextName : (name text : List ℕ) → Type 0
IsNextName name text = (value : List ℕ) × IsName name value × (text ≡ codes "," ++ value)

-- the names of eighteen octets each
pub data PrintsNames : List ℕ → List ℕ → Type 0 where
  of_none : (rest : List ℕ) → length rest < 18 → PrintsNames rest (codes "[]")
  of_some : (name rest first others : List ℕ) → length name ≡ 18 → IsName name first → PrintsRows 18 IsNextName rest others → PrintsNames (name ++ rest) (codes "[" ++ first ++ others ++ codes "]")

-- as `{"address":"192.0.2.7","computer":"FILER","workgroup":"OFFICE","user":null,"server":true,"unit_id":"00:50:56:c0:00:08","names":["FILER#20"]}`
pub record IsObject (ip : ℕ) (host : Host) (names line : List ℕ) : Type 0 where
  pub computer : List ℕ
  pub group : List ℕ
  pub user : List ℕ
  pub list : List ℕ
  pub computer_is : PrintsValue host.computer computer
  pub group_is : PrintsValue host.group group
  pub user_is : PrintsValue host.user user
  pub list_is : PrintsNames names list
  pub line_is : line ≡ member (codes "{") (codes "address") (string (dotted ip)) ++ next (codes "computer") computer ++ next (codes "workgroup") group ++ next (codes "user") user
      ++ next (codes "server") (server_value host.server) ++ next (codes "unit_id") (unit_value host.unit) ++ next (codes "names") list ++ codes "}" ++ newline
