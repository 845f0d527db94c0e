-- What the texts of arguments spell.
use Rattle.std.specs.Prelude.{◌≡◌, ◌≢◌, ◌⊎◌, ℕ, List, Option, Ok, codes}
use Rattle.hex.specs.Hex.{decode_of}
use Rattle.nbt_show.specs.Digits.{digits_in}
use Rattle.nbt_name.specs.declared.addr.Addr.{Addr}
use Rattle.nbt_text.specs.Address.{SpellsAddress}
use Rattle.nbt_prog.specs.Input.{IsInput}

abbrev pub IsAddress : List ℕ → Type 0
IsAddress text = (address : Addr) × SpellsAddress text address

-- the text spells octets, each in two digits
abbrev pub IsHexadecimal : List ℕ → Type 0
IsHexadecimal text = (octets : List ℕ) × (decode_of text ≡ Ok octets)

-- the same, with what may stand between its digits
abbrev pub SpellsDigits : (text octets : List ℕ) → Type 0
SpellsDigits text octets = decode_of (digits_in text) ≡ Ok octets

abbrev pub AreDigits : (text : List ℕ) → Type 0
AreDigits text = (octets : List ℕ) × SpellsDigits text octets

-- the octets that HEX of `show --explain` stands for: standard input spells them where it is `-`, and else HEX itself
abbrev pub StandsFor : (hex : List ℕ) → (known : Option (List ℕ)) → (octets : List ℕ) → Type 0
StandsFor hex known octets = ((hex ≡ codes "-") × ((input : List ℕ) × IsInput known input × SpellsDigits input octets))
    ⊎ ((hex ≢ codes "-") × SpellsDigits hex octets)
