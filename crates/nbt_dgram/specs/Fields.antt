-- The octets of a datagram's head: the flags, and how far a fragment reaches. RFC 1002 sections 4.4.1 and 4.4.2.
use Rattle.std.specs.Prelude.{ℕ, ◌+◌, ◌/◌, ◌%◌, Bool, nat_eq, List, take, slice_index}
use Rattle.nbt_name.specs.Words.{word_at}

-- the octet at a place
abbrev pub octet_at : List ℕ → ℕ → ℕ
octet_at octets place = slice_index octets place

-- F, the first fragment, and M, more fragments follow
abbrev pub first_at : List ℕ → Bool
first_at octets = nat_eq (octet_at octets 1 / 2 % 2) 1

abbrev pub more_at : List ℕ → Bool
more_at octets = nat_eq (octet_at octets 1 % 2) 1

-- PACKET_OFFSET
abbrev pub offset_at : List ℕ → ℕ
offset_at octets = word_at octets 12

-- where the octets that DGM_LENGTH counts end, and the octets up to there
abbrev pub end_at : List ℕ → ℕ
end_at octets = 14 + word_at octets 10

abbrev pub within : List ℕ → List ℕ
within octets = take (end_at octets) octets
