-- A host, its machine's clocks, its port and what is printed (our profile).
use Rattle.std.specs.Prelude.{◌≡◌, ◌⊎◌, ℕ, List, map, Option, Some, None}
use Rattle.nbt_node.specs.Node.{slots_most}
use Rattle.nbt_node.specs.Calls.{started_from}
use Rattle.nbt_name.specs.declared.addr.Addr.{Addr}
use Rattle.nbt_port.specs.declared.fault.Fault.{Fault}
use Rattle.nbt_port.specs.declared.fault.Fault.TheVariants.{Output, Memory}
use Rattle.nbt_log.specs.declared.dates.Dates.{Dates}
use Rattle.nbt_host.specs.Hosting.{HostValue, Terms, first_id, started_again}
use Rattle.nbt_host.specs.Goals.{wanted}
use Rattle.nbt_host.specs.Servers.{begun_at, next_of}
use Rattle.nbt_host.specs.declared.watching.Look.{Look}
use Rattle.nbt_host.specs.declared.arguments.HostArguments.{HostArguments}
use Rattle.nbt_host.specs.declared.asked.Asked.{Asked}

-- the clocks of a machine, what they told last, the server that is asked, and a host's names and its node
pub record HostingValue (K : Type 0) : Type 0 where
  pub watch : K
  pub last : Look
  pub asked : Asked
  pub host : HostValue

-- the same with a port, and what is printed
pub record Running (P K : Type 0) : Type 0 where
  pub port : P
  pub host : HostingValue K
  pub text : Option (List ℕ)

-- what stays of a host while it asks this server
abbrev pub terms_of : HostArguments → Asked → Terms
terms_of a asked = record { slots = slots_most; server = asked.server; config = a.config }

-- a host that knows nothing of its names yet
abbrev pub first_host : HostArguments → Look → HostValue
first_host a look = record { goals = map (wanted a.config) a.wants.items; node = started_from slots_most a.bind a.server a.config look.at (first_id look) }

-- The clocks are looked at, and a host starts at that moment, at the first of its servers.
pub record Starts {K : Type 0} (looks : K → Look → K → Type 0) (a : HostArguments) (watch : K) (new : HostingValue K) : Type 0 where
  pub looked : looks watch new.last new.watch
  pub host_is : new.host ≡ first_host a new.last
  pub asked_is : new.asked ≡ begun_at new.last.at 0 a.server

-- Who is asked from the last look on, in place of a server that is silent.
abbrev pub going_on_with : {K : Type 0} → HostArguments → HostingValue K → Option Asked
going_on_with a h = next_of a h.last.at h.asked

-- Where that is another, the host is from that look on as one whose machine crashed and started, which asks it: it knows nothing, and rests.
abbrev pub moved_to : {K : Type 0} → HostArguments → Option Asked → HostingValue K → HostingValue K
moved_to a None h = h
moved_to a (Some asked) h = record h { asked = asked; host = started_again (terms_of a asked) h.last h.host }

abbrev pub moved : {K : Type 0} → HostArguments → HostingValue K → HostingValue K
moved a h = moved_to a (going_on_with a h) h

-- which time of day it was at which moment, by a look at both clocks
abbrev pub dates_of : Look → Dates
dates_of look = record { moment = look.at; time = look.day }

-- lines can't be written, or memory was refused for them
abbrev pub CantPrint : Fault → Type 0
CantPrint fault = (fault ≡ Output) ⊎ (fault ≡ Memory)
