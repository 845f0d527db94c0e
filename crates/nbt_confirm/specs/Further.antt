-- The further addresses of the machines that hold names (our profile).
use Rattle.std.specs.Prelude.{ℕ, Bool, true, false, ◌&&◌, not, nat_eq, nat_lt, nat_le, min, max, if◌then◌else◌, List, [], ◌∷◌, ◌++◌, map, filter, length, Option, Some, None}
use Rattle.std.specs.List.{list_any}
use Rattle.nbt_name.specs.Wire.{NameValue, same_name}
use Rattle.nbt_confirm.specs.declared.further.Further.{Further}
use Rattle.nbt_confirm.specs.declared.further.Put.{Put}
use Rattle.nbt_confirm.specs.declared.further.Put.TheVariants as put
use Rattle.nbt_confirm.specs.Firsts.{with_first}
use Rattle.nbt_confirm.specs.Inquiries.{ConfirmedValue}

-- the most further addresses of a name, and of all names
abbrev pub name_most : ℕ
name_most = 16

abbrev pub further_most : ℕ
further_most = 4096

-- by its own refreshes it isn't over
abbrev pub is_kept : (now : ℕ) → Further → Bool
is_kept now row = nat_lt now row.renewed_until

abbrev pub kept_at : (now : ℕ) → List Further → List Further
kept_at now rows = filter (is_kept now) rows

abbrev pub is_of : NameValue → Further → Bool
is_of name row = same_name row.name name

abbrev pub is_at : NameValue → (addr : ℕ) → Further → Bool
is_at name addr row = same_name row.name name && nat_eq row.addr addr

-- It is one of the name's, and the holder that confirmed it has its lease still.
abbrev pub is_confirmed : (now : ℕ) → NameValue → (holder : ℕ) → Further → Bool
is_confirmed now name holder row = same_name row.name name && nat_eq row.holder holder && nat_lt now row.end

-- and it has answered itself
abbrev pub is_listed : (now : ℕ) → NameValue → (holder : ℕ) → Further → Bool
is_listed now name holder row = row.reached && is_confirmed now name holder row

-- The further addresses of a name while this address holds it, in the order in which they were confirmed.
abbrev pub listed_at : (now : ℕ) → NameValue → (holder : ℕ) → List Further → List ℕ
listed_at now name holder rows = map (λ row. row.addr) (filter (is_listed now name holder) rows)

-- how many of them this client has, over all names
abbrev pub count_of : (now addr : ℕ) → List Further → ℕ
count_of now addr rows = length (filter (λ row. nat_eq row.addr addr && is_kept now row) rows)

-- ---- one that is confirmed

-- It is listed once it has answered itself, and no longer than the holder's lease.
abbrev pub put_row : ConfirmedValue → (until lease_end : ℕ) → Further
put_row c until lease_end = record { name = c.name; holder = c.holder; addr = c.addr; end = min until lease_end; renewed_until = until; reached = false }

-- confirmed or refreshed anew: it isn't shortened
abbrev pub renewed_row : (holder until lease_end : ℕ) → Further → Further
renewed_row holder until lease_end row =
    record row { holder = holder; end = min (max row.renewed_until until) lease_end; renewed_until = max row.renewed_until until }

-- it has answered itself
abbrev pub reached_row : Further → Further
reached_row row = record row { reached = true }

abbrev pub put_as : List Further → ConfirmedValue → Put
put_as rows c =
    if list_any (is_at c.name c.addr) rows then put.Renewed else
    if nat_le name_most (length (filter (is_of c.name) rows)) then put.NameFull else
    if nat_le further_most (length rows) then put.Full else put.Begun

abbrev pub with_put : Put → List Further → ConfirmedValue → (until lease_end : ℕ) → List Further
with_put put.Begun rows c until lease_end = rows ++ put_row c until lease_end ∷ []
with_put put.Renewed rows c until lease_end = with_first (is_at c.name c.addr) (renewed_row c.holder until lease_end) rows
with_put put.NameFull rows c until lease_end = rows
with_put put.Full rows c until lease_end = rows

-- ---- one that goes

abbrev pub without : NameValue → (addr : ℕ) → List Further → List Further
without name addr rows = filter (λ row. not (is_at name addr row)) rows

abbrev pub without_name : NameValue → List Further → List Further
without_name name rows = filter (λ row. not (is_of name row)) rows

-- it may take the lease over from this holder, since it has answered, and its own refreshes last
abbrev pub is_next : (now : ℕ) → NameValue → (holder : ℕ) → Further → Bool
is_next now name holder row = row.reached && same_name row.name name && nat_eq row.holder holder && is_kept now row

-- its address, if there is one
abbrev pub addr_in : Option Further → Option ℕ
addr_in None = None
addr_in (Some row) = Some row.addr
