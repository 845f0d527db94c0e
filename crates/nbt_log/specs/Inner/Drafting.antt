-- How the rows of a draft are printed (our profile).
use Rattle.std.specs.Prelude.{◌≡◌, ℕ, ◌<◌, ◌≤◌, ⊤, List, ◌++◌, length, take}
use Rattle.nbt_name.specs.Wire.{NameValue}
use Rattle.nbt_lease.specs.declared.lease.Lease.{Lease}
use Rattle.nbt_lease.specs.Lease.{Rows}
use Rattle.nbt_text.specs.Texts.{PrintsEach}
use Rattle.nbt_log.specs.Drafts.{ListingValue, leases, hosts}
use Rattle.nbt_log.specs.Hosts.{PrintsHost, hosts_head}
use Rattle.nbt_log.specs.Inner.Casing.{IsClearIn, KnowsAll}
use Rattle.nbt_log.specs.Leases.{PrintsRow, list_head}
use Rattle.nbt_log.specs.declared.draft.Printer.{Printer}
use Rattle.nbt_log.specs.declared.draft.Printer.TheVariants.{Leases, Hosts}

-- what is listed
abbrev pub listing_in : Printer → ListingValue
listing_in (Leases dates) = leases dates
listing_in (Hosts fixed cases) = hosts fixed

abbrev pub head_in : Printer → List ℕ
head_in (Leases dates) = list_head
head_in (Hosts fixed cases) = hosts_head

-- what a row prints
abbrev pub Prints : Printer → (now : ℕ) → NameValue × Lease → List ℕ → Type 0
Prints (Leases dates) now = PrintsRow dates now
Prints (Hosts fixed cases) now = PrintsHost (IsClearIn fixed cases) now

-- of the hosts of these rows it is known how their names are spelled
abbrev pub Knows : Printer → (now : ℕ) → Rows → Type 0
Knows (Leases dates) now rows = ⊤
Knows (Hosts fixed cases) now rows = KnowsAll now rows cases

-- The text has the first line, and the lines of the first `done` of these rows. Of the first `noted` it is known what a line needs, and before it is of all
-- there is no line.
pub record IsBegun (printer : Printer) (now : ℕ) (rows : Rows) (noted done : ℕ) (text : List ℕ) : Type 0 where
  pub lines : List ℕ
  pub knows : Knows printer now (take noted rows)
  pub noted_within : noted ≤ length rows
  pub within : done ≤ length rows
  pub in_order : noted < length rows → done ≡ 0
  pub printed : PrintsEach (Prints printer now) (take done rows) lines
  pub text_is : text ≡ head_in printer ++ lines
