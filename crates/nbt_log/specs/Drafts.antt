-- A list of a server's rows, and one that is made by parts (our profile).
use Rattle.std.specs.Prelude.{◌≡◌, ℕ, ◌+◌, ◌==◌, min, List, length, if◌then◌else◌}
use Rattle.nbt_lease.specs.Lease.{Rows}
use Rattle.nbt_log.specs.Hosts.{IsHosts}
use Rattle.nbt_log.specs.Leases.{IsList}
use Rattle.nbt_log.specs.declared.dates.Dates.{Dates}
use Rattle.nbt_log.specs.declared.draft.Listing.{Listing}
use Rattle.nbt_log.specs.declared.draft.Listing.TheVariants.{Leases, Hosts}

-- what is listed: the live leases, by these dates, or the hosts beside names that are fixed, given by their octets in capitals
pub data ListingValue : Type 0 where
  leases : Dates → ListingValue
  hosts : (fixed : List (List ℕ)) → ListingValue

abbrev pub listing_of : Listing → ListingValue
listing_of (Leases dates) = leases dates
listing_of (Hosts fixed) = hosts fixed.now

-- its text, of these rows at a moment
abbrev pub IsListing : ListingValue → (at : ℕ) → Rows → List ℕ → Type 0
IsListing (leases dates) at rows text = IsList dates at rows text
IsListing (hosts fixed) at rows text = IsHosts at rows fixed text

-- a list that is made: what is listed, at which moment, of which rows, of how many of them the names are noted, and how many of them are in it so far
pub record DraftValue : Type 0 where
  pub listing : ListingValue
  pub at : ℕ
  pub rows : Rows
  pub noted : ℕ
  pub done : ℕ

-- Which leases are listed hangs on no other row. Whether a host is hangs on how all live names are spelled: they are noted first.
abbrev pub noted_at_first : ListingValue → Rows → ℕ
noted_at_first (leases dates) rows = length rows
noted_at_first (hosts fixed) rows = 0

abbrev pub new_draft : ListingValue → (at : ℕ) → Rows → DraftValue
new_draft listing at rows = record { listing = listing; at = at; rows = rows; noted = noted_at_first listing rows; done = 0 }

-- so many rows a part has at most
abbrev pub part_most : ℕ
part_most = 256

-- the first so many rows, and one part more
abbrev pub one_part_further : Rows → ℕ → ℕ
one_part_further rows count = min (count + part_most) (length rows)

abbrev pub one_part_noted : DraftValue → DraftValue
one_part_noted draft = record draft { noted = one_part_further draft.rows draft.noted }

abbrev pub one_part_listed : DraftValue → DraftValue
one_part_listed draft = record draft { done = one_part_further draft.rows draft.done }

abbrev pub listed_if_noted : DraftValue → DraftValue
listed_if_noted draft = if draft.noted == length draft.rows then one_part_listed draft else draft

-- the names of one part more are noted, and once all are, one part more is listed
abbrev pub one_part_more : DraftValue → DraftValue
one_part_more draft = listed_if_noted (one_part_noted draft)

abbrev pub IsWhole : DraftValue → Type 0
IsWhole draft = draft.done ≡ length draft.rows

-- its text, once it is whole
abbrev pub IsDraftText : DraftValue → List ℕ → Type 0
IsDraftText draft text = IsListing draft.listing draft.at draft.rows text
