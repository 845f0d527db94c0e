-- What the calls of a name server in C's memory answer.
use Rattle.std.specs.Prelude.{◌≡◌, ℕ, ◌<◌, ◌≤◌, List, [], Option, Some, None, slice_get}
use Rattle.nbt_name.specs.declared.addr.Addr.{Addr}
use Rattle.nbt_name.specs.Wire.{NameValue}
use Rattle.nbt_packet.specs.Message.{MessageValue}
use Rattle.nbt_packet.specs.Spelling.{AreWritten}
use Rattle.nbt_lease.specs.declared.lease.Lease.{Lease}
use Rattle.nbt_lease.specs.Config.{last_moment}
use Rattle.nbt_lease.specs.Lease.{leases_at}
use Rattle.nbt_server.specs.declared.fault.ServerFault.TheVariants.{ClockBack, OutOfMemory}
use Rattle.nbt_server.specs.Serving.{ServerValue}
use Rattle.nbt_server.specs.Calls.{ServerStarts, ServerTakes, ServerForgets}
use Rattle.nbt_server.specs.Numbers.{server_fault_number}
use Rattle.nbt_c.specs.declared.ends.CConfig.{CConfig}
use Rattle.nbt_c.specs.declared.serving.CLease.{CLease}
use Rattle.nbt_c.specs.declared.name.CName.{CName}
use Rattle.nbt_c.specs.Ends.{kind_number, StartsWith}
use Rattle.nbt_c.specs.Names.{HoldsName, name_in, stored}
use Rattle.nbt_c.specs.Results.{no_name, no_moment, no_lease}

abbrev pub StartsServer : (config : CConfig) (now : ℕ) → ℕ → Option ServerValue → Type 0
StartsServer config now = StartsWith (λ limits server. ServerStarts limits now server) config now

pub data ServesFor (old : ServerValue) (now : ℕ) (from : Addr) (octets : List ℕ) : ℕ → ServerValue → List ℕ → Type 0 where
  serves : (reply : Option MessageValue) (new : ServerValue) (out : List ℕ) → now ≤ last_moment → ServerTakes old now from.ip octets reply new → AreWritten reply out
      → ServesFor old now from octets 0 new out
  is_late : now ≤ last_moment → now < old.last → ServesFor old now from octets (server_fault_number ClockBack) old []
  lacks_memory : (new : ServerValue) → now ≤ last_moment → ServerForgets old now from.ip octets new → ServesFor old now from octets (server_fault_number OutOfMemory) new []
  has_no_moment : last_moment < now → ServesFor old now from octets no_moment old []

abbrev pub lease_for : Lease → CLease
lease_for lease = record { ip = lease.addr; kind = kind_number lease.kind; end = lease.end }

-- the lease that a call reports stands where the caller asked for it; where it reports none, what stood there stays
abbrev pub lease_after : CLease → Option Lease → CLease
lease_after before None = before
lease_after before (Some lease) = lease_for lease

pub data TellsLease (server : ServerValue) (now : ℕ) (held : CName) (which : ℕ) : ℕ → Option Lease → Type 0 where
  tells : (lease : Lease) → now ≤ last_moment → HoldsName held → server.last ≤ now → slice_get (leases_at now server.table.rows (name_in held)) which ≡ Some lease
      → TellsLease server now held which 0 (Some lease)
  tells_none : now ≤ last_moment → HoldsName held → server.last ≤ now → slice_get (leases_at now server.table.rows (name_in held)) which ≡ None
      → TellsLease server now held which no_lease None
  is_late : now ≤ last_moment → HoldsName held → now < server.last → TellsLease server now held which (server_fault_number ClockBack) None
  has_no_name : now ≤ last_moment → ¬ HoldsName held → TellsLease server now held which no_name None
  has_no_moment : last_moment < now → TellsLease server now held which no_moment None

-- a row of the table that a call reports stands where the caller asked for its name and its lease
abbrev pub name_of_row : CName → Option (NameValue × Lease) → CName
name_of_row before None = before
name_of_row before (Some row) = stored row.0

abbrev pub lease_of_row : CLease → Option (NameValue × Lease) → CLease
lease_of_row before None = before
lease_of_row before (Some row) = lease_for row.1

pub data TellsRow (server : ServerValue) (which : ℕ) : ℕ → Option (NameValue × Lease) → Type 0 where
  tells_row : (row : NameValue × Lease) → slice_get server.table.rows which ≡ Some row → TellsRow server which 0 (Some row)
  tells_no_row : slice_get server.table.rows which ≡ None → TellsRow server which no_lease None
  lacks_room : TellsRow server which (server_fault_number OutOfMemory) None
