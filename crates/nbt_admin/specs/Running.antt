-- What a command for people who run a network does on this machine, what it prints, its status, and how it fails (our profile).
use Rattle.std.specs.Prelude.{◌≡◌, ◌⊎◌, ℕ, nat_lt, Bool, true, false, if◌then◌else◌, List, length, Option, Ok, Err}
use Rattle.std.specs.Io.KnownBytes.{Appends}
use Rattle.nbt_args.specs.declared.texts.AdminLine.{AdminLine}
use Rattle.nbt_args.specs.declared.texts.AdminLine.TheVariants.{Lookup, Status, Nbns, Host, Release, Scan}
use Rattle.nbt_client.specs.Answers.{answer_status}
use Rattle.nbt_client.specs.Asking.{AsksHere}
use Rattle.nbt_client.specs.declared.answer.Answer.{Answer}
use Rattle.nbt_host.specs.Running.{HostsHere}
use Rattle.nbt_host.specs.declared.arguments.HostArguments.{HostArguments}
use Rattle.nbt_nbns.specs.Checking.{ChecksServer}
use Rattle.nbt_nbns.specs.Servers.{EndsServer, folder_status}
use Rattle.nbt_nbns.specs.declared.server.Folder.{Folder}
use Rattle.nbt_nbns.specs.declared.arguments.ServerArguments.{ServerArguments}
use Rattle.nbt_admin.specs.Asking.{ReadsLookup, ReadsStatus}
use Rattle.nbt_admin.specs.Hosting.{ReadsHost, ReadsRelease}
use Rattle.nbt_admin.specs.Serving.{ReadsServer}
use Rattle.nbt_admin.specs.Fronts.{ReadsFront, FrontFails}
use Rattle.nbt_front.specs.Deciding.{FrontValue}
use Rattle.nbt_host.specs.ReleaseRunning.{ReleasesHere}
use Rattle.nbt_admin.specs.Failures.{IsFault}
use Rattle.nbt_admin.specs.Scans.{ReadsScan}
use Rattle.nbt_admin.specs.declared.scanning.ScanArguments.{ScanArguments}
use Rattle.nbt_scan.specs.Running.{ScansHere}
use Rattle.nbt_admin.specs.Statuses.{AskedInTurn}
use Rattle.nbt_admin.specs.declared.asking.AskArguments.{AskArguments}
use Rattle.nbt_admin.specs.declared.asking.HostAsked.{HostAsked}
use Rattle.nbt_admin.specs.declared.failure.Failure.{Failure}

-- The request was made, the text of its answer was appended, and the status is the answer's.
pub record AskedHere (a : AskArguments) (status : ℕ) (old_text text : Option (List ℕ)) : Type 0 where
  pub answer : Answer
  pub printed : List ℕ
  pub asks : AsksHere a.bind a.question a.patience answer printed
  pub appends : Appends old_text text printed
  pub status_is : status ≡ answer_status answer

-- The host ran, and the status says whether it held all its names at its end.
pub record HostedHere (a : HostArguments) (status : ℕ) (old_text text : Option (List ℕ)) : Type 0 where
  pub all : Bool
  pub hosts : HostsHere a all old_text text
  pub status_is : status ≡ (if all then 0 else 5)

-- The names were given back, and the status says whether all releases were confirmed.
pub record ReleasedHere (a : HostArguments) (status : ℕ) (old_text text : Option (List ℕ)) : Type 0 where
  pub all : Bool
  pub releases : ReleasesHere a.bind a.server a.wants.items all old_text text
  pub status_is : status ≡ (if all then 0 else 1)

-- a server before which this stands
abbrev pub with_front : FrontValue → ServerArguments → ServerArguments
with_front front a = record a { nbns = record a.nbns { front = front } }

-- A name server ended so, or didn't begin since another one has its folder, which the status says.
pub record EndedHere (a : ServerArguments) (status : ℕ) (old_text text : Option (List ℕ)) : Type 0 where
  pub folder : Folder
  pub ends : EndsServer a folder old_text text
  pub status_is : status ≡ folder_status folder

-- It was only said what it would do.
pub record CheckedHere (a : ServerArguments) (status : ℕ) (old_text text : Option (List ℕ)) : Type 0 where
  pub folder : Folder
  pub checks : ChecksServer a folder old_text text
  pub status_is : status ≡ folder_status folder

abbrev pub ServedHere : ServerArguments → (check : Bool) → (status : ℕ) → (old_text text : Option (List ℕ)) → Type 0
ServedHere a false status old_text text = EndedHere a status old_text text
ServedHere a true status old_text text = CheckedHere a status old_text text

-- The addresses were asked, and the status says whether any replied.
pub record ScannedHere (a : ScanArguments) (status : ℕ) (old_text text : Option (List ℕ)) : Type 0 where
  pub any : Bool
  pub scans : ScansHere a.bind a.plan a.layout any old_text text
  pub status_is : status ≡ (if any then 0 else 1)

-- the command ran with the arguments that its texts give
abbrev pub Runs : AdminLine → (status : ℕ) → (old_text text : Option (List ℕ)) → Type 0
Runs (Lookup texts) status old_text text = (a : AskArguments) × ReadsLookup texts (Ok a) × AskedHere a status old_text text
Runs (Status texts) status old_text text = (requests : List HostAsked) × ReadsStatus texts (Ok requests) × AskedInTurn (nat_lt 1 (length requests)) requests status old_text text
Runs (Nbns texts) status old_text text = (a : ServerArguments) × ReadsServer texts (Ok a) × (front : FrontValue) × ReadsFront texts a.nbns.front front × ServedHere (with_front front a) texts.check status old_text text
Runs (Host texts) status old_text text = (a : HostArguments) × ReadsHost texts (Ok a) × HostedHere a status old_text text
Runs (Release texts) status old_text text = (a : HostArguments) × ReadsRelease texts (Ok a) × ReleasedHere a status old_text text
Runs (Scan texts) status old_text text = (a : ScanArguments) × ReadsScan texts (Ok a) × ScannedHere a status old_text text

-- the first argument that is wrong is reported
abbrev pub Refuses : AdminLine → Failure → Type 0
Refuses (Lookup texts) failure = ReadsLookup texts (Err failure)
Refuses (Status texts) failure = ReadsStatus texts (Err failure)
Refuses (Nbns texts) failure = ReadsServer texts (Err failure)
Refuses (Host texts) failure = ReadsHost texts (Err failure)
Refuses (Release texts) failure = ReadsRelease texts (Err failure)
Refuses (Scan texts) failure = ReadsScan texts (Err failure)

-- a line of the file of networks or of that of fixed names is wrong
abbrev pub RefusesFile : AdminLine → Failure → Type 0
RefusesFile (Nbns texts) failure = FrontFails texts failure
RefusesFile _ failure = ⊥

-- an argument is wrong, or a line of a file, or a port, a clock, a socket, a file or the output failed, or memory is out
abbrev pub Stops : AdminLine → Failure → Type 0
Stops line failure = IsFault failure ⊎ (Refuses line failure ⊎ RefusesFile line failure)
