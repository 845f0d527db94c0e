-- Numbers in octets, most significant octet first: RFC 1002 section 4.2.1.
use Rattle.std.specs.Prelude.{ℕ, List, drop}
use Rattle.byteorder.specs.Endian.{big_number, big_bytes}

-- the word of two octets, and the long word of four, at a place
abbrev pub word_at : List ℕ → ℕ → ℕ
word_at octets place = big_number 2 (drop place octets)

abbrev pub long_at : List ℕ → ℕ → ℕ
long_at octets place = big_number 4 (drop place octets)

-- a number's two octets, and its four
abbrev pub word : ℕ → List ℕ
word x = big_bytes 2 x

abbrev pub long : ℕ → List ℕ
long x = big_bytes 4 x
