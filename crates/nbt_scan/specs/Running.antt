-- A scan on this machine, and what is printed of it (our profile).
use Rattle.std.specs.Prelude.{◌≡◌, ℕ, Bool, false, List, [], Option, replicate, length}
use Rattle.std.specs.List.{list_any}
use Rattle.std.specs.Io.KnownBytes.{Appends}
use Rattle.nbt_name.specs.declared.addr.Addr.{Addr}
use Rattle.nbt_port.specs.PortCalls.{PortCall}
use Rattle.nbt_port.specs.Clocks.{SteadyTells, SteadyBegins, SystemShows}
use Rattle.nbt_port.specs.Udp.{UdpValue, UdpDoes}
use Rattle.nbt_scan.specs.declared.form.Layout.{Layout}
use Rattle.nbt_scan.specs.declared.plan.Plan.{Plan}
use Rattle.nbt_scan.specs.declared.scan.Scan.{Scan}
use Rattle.nbt_scan.specs.declared.sheet.Kept.{Kept}
use Rattle.nbt_scan.specs.Progressing.{begun}
use Rattle.nbt_scan.specs.Scanning.{Scans}
use Rattle.nbt_scan.specs.Sheets.{PrintsKept}

-- none has replied
abbrev pub first_scan : Plan → (now : ℕ) → Scan
first_scan plan now = record { progress = begun plan now; replied = replicate (length plan.ips.items) false }

-- The clock is read, the addresses are asked, each by its id, and what was kept is printed. It tells whether any replied.
pub record ScansOver {P C : Type 0} (does : P → PortCall → P → Type 0) (tells : C → ℕ → C → Type 0) (plan : Plan) (ids : List ℕ) (layout : Layout) (any : Bool)
    (old_port : P) (old_clock : C) (old_text : Option (List ℕ)) (port : P) (clock : C) (text : Option (List ℕ)) : Type 0 where
  pub now : ℕ
  pub read : C
  pub scan : Scan
  pub kept : List Kept
  pub told_text : Option (List ℕ)
  pub lines : List ℕ
  pub told : tells old_clock now read
  pub scans : Scans does tells plan ids layout
      (record { clock = read; here = record { port = old_port; scan = first_scan plan now; sheet = record { kept = []; text = old_text } } })
      (record { clock = clock; here = record { port = port; scan = scan; sheet = record { kept = kept; text = told_text } } })
  pub lines_are : PrintsKept kept lines
  pub printed : Appends told_text text lines
  pub any_is : any ≡ list_any (λ reply. reply) scan.replied

-- over a UDP port of this machine that was bound to this address, and its steady clock, by some ids
abbrev pub ScansHere : (bind : Addr) → Plan → Layout → (any : Bool) → (old_text text : Option (List ℕ)) → Type 0
ScansHere bind plan layout any old_text text = (ids : List ℕ) × (first : ℕ) × (port : UdpValue) × (clock : ℕ) × SteadyBegins SystemShows first
    × ScansOver UdpDoes (SteadyTells SystemShows) plan ids layout any (record { addr = bind; failures = 0 }) first old_text port clock text
