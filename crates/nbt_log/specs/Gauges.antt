-- What a name server's leases are at a moment, in numbers (our profile).
use Rattle.std.specs.Prelude.{ℕ, ◌-◌, min, max, nat_eq, Bool, true, false, ◌&&◌, if◌then◌else◌, fold, count_by}
use Rattle.nbt_name.specs.Wire.{NameValue}
use Rattle.nbt_name.specs.declared.addr.Kind.{Kind}
use Rattle.nbt_name.specs.declared.addr.Kind.TheVariants.{Unique, Group}
use Rattle.nbt_lease.specs.Lease.{Rows, is_live}
use Rattle.nbt_lease.specs.declared.lease.Lease.{Lease}
use Rattle.nbt_log.specs.declared.gauges.Gauges.{Gauges}

abbrev pub is_of : Kind → Kind → Bool
is_of Unique Unique = true
is_of Group Group = true
is_of kind other = false

-- how many leases of this kind live
abbrev pub count_of : (now : ℕ) → Kind → Rows → ℕ
count_of now kind rows = count_by (λ row. is_of kind row.1.kind && is_live now row.1) rows

-- how long a lease lives still; 0 where it is over
abbrev pub time_left : (now : ℕ) → NameValue × Lease → ℕ
time_left now row = row.1.end - now

-- the greater of a time and of that which a row has left
abbrev pub greater_left : (now greatest : ℕ) → NameValue × Lease → ℕ
greater_left now greatest row = max greatest (time_left now row)

abbrev pub greatest_left : (now : ℕ) → Rows → ℕ
greatest_left now rows = fold (greater_left now) 0 rows

-- the less of two times, of which 0 is none
abbrev pub less_of : ℕ → ℕ → ℕ
less_of a b = if nat_eq a 0 then b else if nat_eq b 0 then a else min a b

abbrev pub less_left : (now least : ℕ) → NameValue × Lease → ℕ
less_left now least row = less_of least (time_left now row)

abbrev pub least_left : (now : ℕ) → Rows → ℕ
least_left now rows = fold (less_left now) 0 rows

-- in a table of so many rows
abbrev pub gauges_of : (now most : ℕ) → Rows → Gauges
gauges_of now most rows = record {
  unique = count_of now Unique rows;
  groups = count_of now Group rows;
  free = (most - count_of now Unique rows) - count_of now Group rows;
  least_left = least_left now rows;
  greatest_left = greatest_left now rows;
}
