-- HEX as people copy it (our profile): digits, and what may stand between them.
use Rattle.std.specs.Prelude.{ℕ, Bool, ◌||◌, not, nat_eq, List, filter}

-- a space, a colon, and what ends a line: a line feed or a carriage return
abbrev pub is_between : ℕ → Bool
is_between octet = nat_eq octet 0x20 || nat_eq octet 0x3A || nat_eq octet 0x0A || nat_eq octet 0x0D

-- the text without them
abbrev pub digits_in : List ℕ → List ℕ
digits_in text = filter (λ octet. not (is_between octet)) text
