-- What closes a line, so that a damaged one is known (our profile).
use Rattle.std.specs.Prelude.{ℕ, ◌+◌, ◌*◌, ◌%◌, List, ◌∷◌, ◌++◌, fold}
use Rattle.std.specs.Int.{w32, to_be_bytes}
use Rattle.hex.specs.Hex.{encode_lower}

-- the greatest prime below 2^32
abbrev pub prime : ℕ
prime = 4294967291

-- One octet more: octets are read as digits to the base 257, modulo the prime.
abbrev pub with_octet : ℕ → ℕ → ℕ
with_octet sum octet = (sum * 257 + octet + 1) % prime

-- The checksum of octets goes on from that of what stood before them.
abbrev pub checksum : (before : ℕ) → List ℕ → ℕ
checksum before octets = fold with_octet before octets

-- what stands behind a line's words: a space, and the eight digits of their checksum
abbrev pub seal_digits : (sum : ℕ) → List ℕ
seal_digits sum = 0x20 ∷ encode_lower (to_be_bytes w32 sum)

-- a line is its words, closed by their checksum
abbrev pub sealed : (before : ℕ) → List ℕ → List ℕ
sealed before body = body ++ seal_digits (checksum before body)
