-- What stands for a text in an XML document, and what a reader takes it for (XML 1.0 sections 2.2, 2.4 and 4.6).
use Rattle.std.specs.Prelude.{◌≢◌, ℕ, ◌≤◌, ◌==◌, nat_lt, if◌then◌else◌, List, [], ◌∷◌, ◌++◌, codes}

-- ---- writing

-- an octet that can stand in a text: from the space to `~`
abbrev pub IsPrintable : ℕ → Type 0
IsPrintable octet = (0x20 ≤ octet) × (octet ≤ 0x7E)

-- what stands for one octet: five have names, and `?` stands for what can't be printed
abbrev pub written_octet : ℕ → List ℕ
written_octet octet =
    if octet == 38 then codes "&amp;"
    else if octet == 60 then codes "&lt;"
    else if octet == 62 then codes "&gt;"
    else if octet == 34 then codes "&quot;"
    else if octet == 39 then codes "&apos;"
    else if nat_lt octet 0x20 then codes "?"
    else if nat_lt 0x7E octet then codes "?"
    else octet ∷ []

abbrev pub written : List ℕ → List ℕ
written [] = []
written (octet ∷ text) = written_octet octet ++ written text

-- ---- reading

-- the names of octets, between `&` and `;`
pub data IsNamed : List ℕ → ℕ → Type 0 where
  ampersand : IsNamed (codes "amp") 38
  less : IsNamed (codes "lt") 60
  greater : IsNamed (codes "gt") 62
  quote : IsNamed (codes "quot") 34
  apostrophe : IsNamed (codes "apos") 39

-- What a reader takes these octets for, which begin no tag: an octet that isn't `&` or `<` for itself, and a name for its
-- octet.
pub data Reads : List ℕ → List ℕ → Type 0 where
  ends : Reads [] []
  itself : (octet : ℕ) (rest text : List ℕ) → octet ≢ 38 → octet ≢ 60 → Reads rest text → Reads (octet ∷ rest) (octet ∷ text)
  by_name : (name : List ℕ) (octet : ℕ) (rest text : List ℕ) → IsNamed name octet → Reads rest text
      → Reads (codes "&" ++ name ++ codes ";" ++ rest) (octet ∷ text)
