-- The header of the file that a crash leaves, and what a start finds then (our profile).
use Rattle.std.specs.Prelude.{◌≡◌, ◌⊎◌, ℕ, ⊤, List, [], ◌∷◌, ◌++◌, map, Option, Some, None}
use Rattle.std.specs.Borrow.{Bor}
use Rattle.std.specs.List.{AllByRecursion}
use Rattle.nbt_lease.specs.Config.{ConfigValue, IsConfig}
use Rattle.nbt_lease.specs.Lease.{Rows}
use Rattle.nbt_port.specs.PortCalls.{Chain}
use Rattle.nbt_server.specs.Serving.{ServerValue}
use Rattle.nbt_store.specs.Beginning.{BeginsAs}
use Rattle.nbt_store.specs.Calls.{StoreCall, renewal_began, renewed, Kept, kept_rows, MayLeaveAfter, first_changes, as_drafted, WentWell}
use Rattle.nbt_store.specs.Crashes.{CrashLeaves, Folder, folder_of}
use Rattle.nbt_store.specs.DiskCalls.{DiskCall, created, create_failed, installed, install_failed}
use Rattle.nbt_store.specs.DiskStores.{AskInTurn, IsNewFile, StoreDoes, Tail, disk_of, tail_at, tail_of}
use Rattle.nbt_store.specs.Lines.{IsFile}
use Rattle.nbt_store.specs.declared.beginning.Begun.{Begun}
use Rattle.nbt_store.specs.declared.change.Change.{Change}
use Rattle.nbt_store.specs.declared.disk_store.DiskStore.{DiskStore}
use Rattle.nbt_store.specs.declared.form.Form.TheVariants.{Three}
use Rattle.nbt_store.specs.declared.header.Header.{Header}
use Rattle.nbt_store.specs.declared.resuming.Found.{Found}
use Rattle.nbt_store.specs.declared.resuming.Reason.{Reason}
use Rattle.nbt_serve.specs.Devices.{DeviceCall}
use Rattle.nbt_serve.specs.Runs.{Held, Runs, Seen, calls_in, gone_in, last_left, live_rows, stored_in, turns_in}
use Rattle.nbt_net.specs.Again.{IsUnderWay, acts_of_start, held_of, kept_of}
use Rattle.nbt_net.specs.Restarts.{later_act}
use Rattle.nbt_net.specs.Servers.{act_at}
use Rattle.nbt_net.specs.Starts.{FindsLeft, HasNotGoneBack, ResumesLater}
use Rattle.nbt_net.specs.Turns.{acts_before, IsCutShort}
use Rattle.nbt_net.specs.Wire.{Act}

-- ---- the header of a file

-- the header of the file, and that of the new file beside it, if there is one
pub record Headed : Type 0 where
  pub file : Header
  pub beside : Option Header

-- a file that was just written with this header
abbrev pub headed : Header → Headed
headed header = record { file = header; beside = None }

-- that of the new file, if there is one
abbrev pub header_beside : Option Header → (otherwise : Header) → Header
header_beside None otherwise = otherwise
header_beside (Some header) otherwise = header

-- After a call of the store. A new file has the header with which it was begun, and once it takes the file's place the file has that.
abbrev pub headed_by : StoreCall → Headed → Headed
headed_by (renewal_began header changes) now = record { file = now.file; beside = Some header }
headed_by renewed now = headed (header_beside now.beside now.file)
headed_by call now = now

abbrev pub headed_after : List StoreCall → Headed → Headed
headed_after [] now = now
headed_after (call ∷ calls) now = headed_after calls (headed_by call now)

-- The header of the file that a crash leaves, in step with its changes: of the file; or of the new one, where that was last to take its
-- place, and that failed.
abbrev pub header_left : {kept : Kept} {calls : List StoreCall} {left : List Change} → (first : Header) → MayLeaveAfter kept calls left → Header
header_left {calls = calls} first (first_changes may) = (headed_after calls (headed first)).file
header_left first (as_drafted before draft calls_are there left_is) = header_beside (headed_after before (headed first)).beside first

-- These octets are a file of changes that calls may leave, with the header that goes with them. Its last time is the one that a run has of
-- them. The file was first written with this header and these leases.
pub record IsLeftBy (first : Header) (rows : Rows) (calls : List StoreCall) (octets : List ℕ) : Type 0 where
  pub changes : List Change
  pub end : ℕ
  pub may : MayLeaveAfter (kept_rows first.last rows) calls changes
  pub file : IsFile octets Three (header_left first may) changes end
  pub last_is : (header_left first may).last ≡ last_left first.last may

-- calls that all went well, but maybe the last
pub data AllButLast (calls : List StoreCall) : Type 0 where
  all_of_them : WentWell calls → AllButLast calls
  but_the_last : (before : List StoreCall) (last : StoreCall) → calls ≡ before ++ last ∷ [] → WentWell before → AllButLast calls

-- A file was written anew with this header and these leases. Calls of a store went on from it, and asked this of its disk. Then whatever a crash
-- leaves of it has the header that goes with its changes.
abbrev pub CrashLeavesTheFile : Type 0
CrashLeavesTheFile = (header : Header) (rows : Rows) (text : List ℕ) (sum : ℕ) (calls : List StoreCall) (asked : List DiskCall) (last : Tail) → IsNewFile text header rows sum → AskInTurn calls (tail_at sum) asked last → AllButLast calls
    → (octets : List ℕ) → CrashLeaves (folder_of text) asked octets → IsLeftBy header rows calls octets

-- ---- a store that is opened

-- what the opening of a store asks of its disk up to a crash: nothing yet; a new file of these octets, which was made or not; and that it takes
-- the file's place, which it did or not
pub data AsksToOpen (text : List ℕ) : List DiskCall → Type 0 where
  nothing_yet : AsksToOpen text []
  not_made : AsksToOpen text (create_failed text ∷ [])
  made : AsksToOpen text (created text ∷ [])
  was_not_installed : AsksToOpen text (created text ∷ install_failed ∷ [])
  was_installed : AsksToOpen text (created text ∷ installed ∷ [])

-- A crash within it leaves what a crash before it leaves, or the whole new file.
abbrev pub CrashWithinAnOpening : Type 0
CrashWithinAnOpening = (folder : Folder) (asked opening : List DiskCall) (text octets : List ℕ) → AsksToOpen text opening → CrashLeaves folder (asked ++ opening) octets → CrashLeaves folder asked octets ⊎ (octets ≡ text)

-- A store was opened over a disk, with this header and these leases: it made a new file of them, which took the place of the file.
pub record IsOpened {D : Type 0} (does : D → DiskCall → D → Type 0) (header : Header) (rows : Rows) (disk : D) (store : DiskStore D) : Type 0 where
  pub text : List ℕ
  pub sum : ℕ
  pub new_file : IsNewFile text header rows sum
  pub did : Chain does disk (created text ∷ installed ∷ []) (disk_of store)
  pub goes_on : tail_of store ≡ tail_at sum

-- A store was opened over a disk, and called since. Then whatever a crash leaves of that disk, in whichever folder, has the header that goes
-- with its changes.
abbrev pub CrashLeavesTheHeader : {D : Type 0} → (D → DiskCall → D → Type 0) → Type 0
CrashLeavesTheHeader {D} does = (header : Header) (rows : Rows) (disk : D) (opened store : DiskStore D) (calls : List StoreCall) → IsOpened does header rows disk opened → Chain (StoreDoes does) opened calls store → AllButLast calls
    → (asked : List DiskCall) × Chain does disk asked (disk_of store) × ((folder : Folder) (octets : List ℕ) → CrashLeaves folder asked octets → IsLeftBy header rows calls octets)

-- ---- a start

-- the header has the start, the life and the longest lease of this server
pub record IsHeaderOf (server : ServerValue) (header : Header) : Type 0 where
  pub start_is : header.start ≡ server.start
  pub life_is : header.life ≡ server.table.config.life
  pub longest_is : header.longest ≡ server.table.config.longest

-- each new file is begun with such a header
abbrev pub BeginsWith : (Header → Type 0) → StoreCall → Type 0
BeginsWith own (renewal_began header changes) = own header
BeginsWith own call = ⊤

abbrev pub AllBeginWith : (Header → Type 0) → List StoreCall → Type 0
AllBeginWith own calls = AllByRecursion (BeginsWith own) calls

-- a start finds these octets
abbrev pub Finds : Found → (octets : List ℕ) → Type 0
Finds f octets = (there : Bor (List ℕ)) × (f.kept ≡ Some there) × (there.now ≡ octets)

-- A store was opened with a server's header, and called since, and each new file was begun with a header of that server. Then each start that
-- finds what a crash left of the disk, and goes on, finds what the server left: with its start, its life and its longest lease.
abbrev pub StartFindsLeft : {D : Type 0} → (D → DiskCall → D → Type 0) → Type 0
StartFindsLeft {D} does = (ran : ServerValue) (header : Header) (rows : Rows) (disk : D) (opened store : DiskStore D) (calls : List StoreCall) → IsOpened does header rows disk opened → Chain (StoreDoes does) opened calls store → AllButLast calls
    → IsHeaderOf ran header → AllBeginWith (IsHeaderOf ran) calls
    → (asked : List DiskCall) × Chain does disk asked (disk_of store) × ((folder : Folder) (octets : List ℕ) → CrashLeaves folder asked octets
    → (left : List Change) × (may : MayLeaveAfter (kept_rows header.last rows) calls left)
    × ((f : Found) (b : Begun) → Finds f octets → BeginsAs f b → b.reason ≡ None → FindsLeft ran (last_left header.last may) left f))

-- ---- lives, one after another

-- These octets are what a crash left, behind these calls, of a server that began so and lived by these acts before. The next start that finds them
-- goes on with that server, or begins anew; and it is under way then as that one was.
abbrev pub NextGoesOn : (config : ConfigValue) → List Act → Begun → (clients : Option ℕ) → List Seen → (before : List DeviceCall) → (octets : List ℕ) → Type 0
NextGoesOn config acts b clients seen before octets = (left : List Change) × (may : MayLeaveAfter (kept_of b) (stored_in before) left) × (cut : IsCutShort config (held_of clients b).server (turns_in seen) (gone_in before) (last_left b.header.last may) left)
    × ((at : ℕ) (f : Found) (next : Begun) (rows : Option ℕ) → Finds f octets → BeginsAs f next
    → (next.reason ≡ None → (found : FindsLeft (held_of clients b).server (last_left b.header.last may) left f) × (HasNotGoneBack found cut.earlier.server next → (later : ResumesLater cut.earlier.server (last_left b.header.last may) left f next)
    × IsUnderWay config (map (later_act later.shift) (acts ++ (acts_before cut.earlier ++ act_at at ∷ [])) ++ acts_of_start next) (kept_of next) next.header.last (held_of rows next)))
    × ((reason : Reason) → f.config.life ≡ config.life → f.config.longest ≡ config.longest → next.reason ≡ Some reason → IsUnderWay config ((acts ++ (acts_before cut.earlier ++ act_at at ∷ [])) ++ acts_of_start next) (kept_of next) next.header.last (held_of rows next)))

-- A server began, and its file was written anew with what it began with. It ran, and crashed at or within any call of its devices. Up to there the
-- calls of its store asked this of the disk. Whatever that left of the file, the next start that finds it goes on with it, or begins anew; and so does
-- each one behind it.
abbrev pub FileNextStart : Type 0
FileNextStart = (config : ConfigValue) (acts : List Act) (began : Found) (b : Begun) (clients : Option ℕ) (new : Held) (seen : List Seen) → BeginsAs began b → IsUnderWay config acts (kept_of b) b.header.last (held_of clients b) → Runs (held_of clients b) seen new → IsConfig config
    → (before behind : List DeviceCall) → calls_in seen ≡ before ++ behind
    → (text : List ℕ) (sum : ℕ) (asked : List DiskCall) (last : Tail) → IsNewFile text b.header (live_rows b.server) sum → AskInTurn (stored_in before) (tail_at sum) asked last → AllBeginWith (IsHeaderOf (held_of clients b).server) (stored_in before)
    → (octets : List ℕ) → CrashLeaves (folder_of text) asked octets → NextGoesOn config acts b clients seen before octets

-- A server began, and crashed as it wrote its file anew, within the opening of its store. What that left of the file is what a crash before it leaves,
-- as if it had not begun; or the next start that finds it goes on with this server, which did nothing yet, or begins anew.
abbrev pub OpeningNextStart : Type 0
OpeningNextStart = (config : ConfigValue) (acts : List Act) (began : Found) (b : Begun) (clients : Option ℕ) → BeginsAs began b → IsUnderWay config acts (kept_of b) b.header.last (held_of clients b) → IsConfig config
    → (text : List ℕ) (sum : ℕ) → IsNewFile text b.header (live_rows b.server) sum → (folder : Folder) (asked opening : List DiskCall) (octets : List ℕ) → AsksToOpen text opening → CrashLeaves folder (asked ++ opening) octets
    → CrashLeaves folder asked octets ⊎ NextGoesOn config acts b clients [] [] octets

-- So it is where its store is over a disk, and was opened with what it began with.
abbrev pub DiskNextStart : {D : Type 0} → (D → DiskCall → D → Type 0) → Type 0
DiskNextStart {D} does = (config : ConfigValue) (acts : List Act) (began : Found) (b : Begun) (clients : Option ℕ) (new : Held) (seen : List Seen) → BeginsAs began b → IsUnderWay config acts (kept_of b) b.header.last (held_of clients b) → Runs (held_of clients b) seen new → IsConfig config
    → (before behind : List DeviceCall) → calls_in seen ≡ before ++ behind
    → (disk : D) (opened store : DiskStore D) → IsOpened does b.header (live_rows b.server) disk opened → Chain (StoreDoes does) opened (stored_in before) store → AllBeginWith (IsHeaderOf (held_of clients b).server) (stored_in before)
    → (asked : List DiskCall) × Chain does disk asked (disk_of store) × ((folder : Folder) (octets : List ℕ) → CrashLeaves folder asked octets → NextGoesOn config acts b clients seen before octets)
