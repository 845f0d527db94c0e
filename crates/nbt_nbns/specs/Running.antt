-- What `nbns` does and prints over this machine (our profile).
use Rattle.std.specs.Prelude.{◌≡◌, ℕ, ◌+◌, Bool, true, false, if◌then◌else◌, List, [], Option, Some, None, String}
use Rattle.std.specs.String.{string_bytes}
use Rattle.std.specs.Io.KnownBytes.{Appends}
use Rattle.nbt_name.specs.declared.addr.Addr.{Addr}
use Rattle.nbt_lease.specs.Config.{milliseconds}
use Rattle.nbt_lease.specs.Lease.{Rows}
use Rattle.nbt_server.specs.Serving.{ServerValue}
use Rattle.nbt_server.specs.Calls.{ServerStarts, limited}
use Rattle.nbt_port.specs.PortCalls.{PortCall}
use Rattle.nbt_port.specs.Clocks.{MachineTells, SteadyTells, SteadyBegins, SystemShows}
use Rattle.nbt_port.specs.Numbers.{forever}
use Rattle.nbt_port.specs.Staying.{StaysUntil, EndsEarly}
use Rattle.nbt_port.specs.Udp.{PortsValue, PortsDo}
use Rattle.nbt_port.specs.Until.{until_of}
use Rattle.nbt_port.specs.declared.fault.Fault.{Fault}
use Rattle.nbt_port.specs.declared.fault.Fault.TheVariants.{Device}
use Rattle.nbt_log.specs.Dates.{second_at}
use Rattle.nbt_log.specs.declared.dates.Dates.{Dates}
use Rattle.nbt_front.specs.Deciding.{desk_of}
use Rattle.nbt_front.specs.FixedNames.{capitals_of}
use Rattle.nbt_front.specs.FrontPort.{Fronted, FrontDoes}
use Rattle.nbt_log.specs.Tallies.{no_tally}
use Rattle.nbt_log.specs.declared.origin.Origin.{Origin}
use Rattle.nbt_serve.specs.SambaPort.{HandsOn}
use Rattle.nbt_nbns.specs.Begin.{IsBegin, manner_at_first}
use Rattle.nbt_nbns.specs.Journaling.{Journals}
use Rattle.nbt_nbns.specs.Keeping.{KeeperValue, new_keeper}
use Rattle.nbt_nbns.specs.Listers.{ListerValue, new_lister}
use Rattle.nbt_nbns.specs.Logging.{LoggerValue, new_logger}
use Rattle.nbt_nbns.specs.Places.{FileValue, file_of, Stays}
use Rattle.nbt_nbns.specs.Folders.{FolderDoes, FolderValue}
use Rattle.nbt_nbns.specs.Renewing.{NotesNames, RenewsOn, RenewsPort}
use Rattle.nbt_nbns.specs.Staying.{Staying, BreaksStaying, CutsStaying, WatchesLast}
use Rattle.nbt_nbns.specs.declared.first_line.Manner.{Manner}
use Rattle.nbt_nbns.specs.declared.content.Content.{Content}
use Rattle.nbt_nbns.specs.declared.content.Content.TheVariants as content
use Rattle.nbt_nbns.specs.declared.arguments.NbnsArguments.{NbnsArguments}
use Rattle.nbt_nbns.specs.declared.journal.Journal.{Journal}
use Rattle.nbt_serve.specs.declared.fault.KeepFault.TheVariants as fault

-- the port beneath the front: over UDP, or over one on which Samba's registrations come as registrations
abbrev pub BeneathDoes : (strict : Bool) → PortsValue → PortCall → PortsValue → Type 0
BeneathDoes true = PortsDo
BeneathDoes false = HandsOn PortsDo

-- the port that the server has, before which its front stands
abbrev pub PortDoes : (strict : Bool) → Fronted PortsValue → PortCall → Fronted PortsValue → Type 0
PortDoes strict = FrontDoes (BeneathDoes strict)

-- how many of its calls have failed
abbrev pub PortFailures : Fronted PortsValue → ℕ
PortFailures fronted = fronted.port.failures

-- a log in which no line was printed yet, if there is to be one
abbrev pub log_of : (log broadcasts : Bool) → (most : ℕ) → Option LoggerValue
log_of log broadcasts most = if log then Some (new_logger broadcasts most) else None

-- the file of this path, if there is to be one
abbrev pub place_of : {A : Type 0} → Content → Option (String A) → Option FileValue
place_of content None = None
place_of content (Some path) = Some (file_of content (string_bytes path))

-- what was not listed or kept yet in a place, if there is one
abbrev pub lister_of : {L : Type 0} → Option L → Option (ListerValue L)
lister_of None = None
lister_of (Some place) = Some (new_lister place)

abbrev pub keeper_of : {L : Type 0} → Option L → Option (KeeperValue L)
keeper_of None = None
keeper_of (Some place) = Some (new_keeper place)

-- when a server began that serves from now on, by these dates, and that first began at `start`, before its silence
abbrev pub origin_of : Dates → (start longest : ℕ) → Origin
origin_of dates start longest = record { since = second_at dates dates.moment; speaks = start + milliseconds longest }

-- a journal that saw no turn yet, of a server that serves from now on, by these dates and this clock of the day
abbrev pub new_journal : {D : Type 0} → NbnsArguments → Dates → (day : D) → (start : ℕ) → Journal D FileValue
new_journal a dates day start = record {
  dates = dates;
  day = day;
  day_read = dates.moment;
  log = log_of a.log a.broadcasts a.log_rate;
  leases = lister_of (place_of content.Leases a.leases);
  hosts = lister_of (place_of content.Hosts a.hosts);
  fixed = capitals_of a.front.fixed;
  stats = keeper_of (place_of content.Stats a.stats);
  tally = no_tally;
  origin = origin_of dates start a.config.longest;
}

-- what goes on: a port, a clock and a server of this machine, its folder, if it has one, and the journal
abbrev pub Nbns : (C : Type 0) → Type 0
Nbns C = Staying (Fronted PortsValue) FolderValue C ℕ (Journal ℕ FileValue)

module _ {C : Type 0} (tells : C → ℕ → C → Type 0) (strict : Bool) (until : Option ℕ) where
  -- It stays up for good, or until its time is over.
  abbrev pub KeepsUntil : Nbns C → Nbns C → Type 0
  KeepsUntil old new =
      StaysUntil (RenewsOn (PortDoes strict) PortFailures RenewsPort FolderDoes tells MachineTells (Journals MachineTells Stays Stays) NotesNames until) (BreaksStaying (PortDoes strict) FolderDoes tells fault.Port)
      (WatchesLast (PortDoes strict) PortFailures FolderDoes tells MachineTells (Journals MachineTells Stays Stays) until) forever old new

  -- It ends before that: for the device it gives up, and the folder's failure cuts it off.
  abbrev pub KeepsNot : Fault → Nbns C → Nbns C → Type 0
  KeepsNot why old new =
      EndsEarly (RenewsOn (PortDoes strict) PortFailures RenewsPort FolderDoes tells MachineTells (Journals MachineTells Stays Stays) NotesNames until) (BreaksStaying (PortDoes strict) FolderDoes tells fault.Port)
      (CutsStaying (PortDoes strict) PortFailures FolderDoes tells MachineTells (Journals MachineTells Stays Stays)) forever why old new

-- A server begins so, and is at first what `starts` says: the first line says how it begins, and it goes on from there.
pub record Begins {C : Type 0} (starts : Manner → Nbns C → Type 0) (goes : Nbns C → Nbns C → Type 0) (old_text text : Option (List ℕ)) : Type 0 where
  pub at : List Addr
  pub manner : Manner
  pub line : List ℕ
  pub first : Nbns C
  pub last : Nbns C
  pub begins : starts manner first
  pub is_first : IsBegin at manner line
  pub printed : Appends old_text first.text line
  pub goes_on : goes first last
  pub text_is : last.text ≡ text

-- the port at first, of whose front these leases stand in the way of fixed names
abbrev pub port_at_first : NbnsArguments → (standing : Rows) → Fronted PortsValue
port_at_first a standing = record { port = record { bind = a.bind; failures = 0 }; desk = desk_of a.front standing [] }

-- what a server without a state is at first that starts so, at this time of day: it limits its clients
abbrev pub at_first : NbnsArguments → (start time : ℕ) → ServerValue → Option (List ℕ) → Nbns ℕ
at_first a start time server text = record {
  served = record { port = port_at_first a []; clock = start; server = limited (Some a.rows_per_client) server; state = None };
  day = 0;
  watcher = new_journal a (record { moment = start; time = time }) time start;
  text = text;
}

-- The steady clock begins, both clocks are read, and a server starts without a state.
pub record StartsAnew (a : NbnsArguments) (manner : Manner) (first : Nbns ℕ) : Type 0 where
  pub boot : ℕ
  pub start : ℕ
  pub day : ℕ
  pub time : ℕ
  pub server : ServerValue
  pub clock_begins : SteadyBegins SystemShows boot
  pub start_told : SteadyTells SystemShows boot start start
  pub time_told : MachineTells day time time
  pub starts : ServerStarts a.config start server
  pub manner_is : manner ≡ manner_at_first a.config.longest (record { moment = start; time = time })
  pub first_is : first ≡ at_first a start time server first.text

-- it stays up, or its time is over
abbrev pub RunsNbns : NbnsArguments → (old_text text : Option (List ℕ)) → Type 0
RunsNbns a old_text text = Begins (StartsAnew a) (λ first. KeepsUntil (SteadyTells SystemShows) a.strict (until_of first.served.server.last a.time) first) old_text text

-- it gives up
abbrev pub NbnsFails : NbnsArguments → (old_text text : Option (List ℕ)) → Type 0
NbnsFails a old_text text = Begins (StartsAnew a) (λ first. KeepsNot (SteadyTells SystemShows) a.strict (until_of first.served.server.last a.time) Device first) old_text text
