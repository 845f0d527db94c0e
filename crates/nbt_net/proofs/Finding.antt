-- A start that finds what a crash left of a disk.
use Rattle.std.proofs.Common.{◌≡◌, ◌∙◌, ℕ, not, nat_eq, false, true, Bool, Option, Some, None, List, [], ◌∷◌, ◌++◌, Result, Ok, Err, if◌then◌else◌, length, inl, inr, refl, sym, subst, arith}
use Rattle.std.proofs.lemmas.List.{take_all}
use Rattle.std.specs.Prelude.{◌⊎◌, ⊤}
use Rattle.std.specs.Borrow.{Bor}
use Rattle.std.proofs.lemmas.Bool.{eqb-true}
use Rattle.nbt_lease.specs.Config.{ConfigValue}
use Rattle.nbt_lease.specs.Lease.{Rows}
use Rattle.nbt_server.specs.Serving.{ServerValue}
use Rattle.nbt_store.specs.Beginning.{BeginsAs, IsBegun}
use Rattle.nbt_store.specs.Calls.{StoreCall, appended, append_failed, synced, sync_failed, renewal_began, renewal_went_on, renewed, renewal_failed, kept_rows, MayLeaveAfter, first_changes, as_drafted}
use Rattle.nbt_store.specs.Lines.{IsFile}
use Rattle.nbt_store.specs.Resuming.{GoesOnWith, ResumesAs, not_now, by_clock, nothing_kept, no_file, with_file}
use Rattle.nbt_store.specs.Silence.{going_on}
use Rattle.nbt_store.specs.declared.beginning.Begun.{Begun}
use Rattle.nbt_store.specs.declared.change.Change.{Change}
use Rattle.nbt_store.specs.declared.form.Form.{Form}
use Rattle.nbt_store.specs.declared.form.Form.TheVariants.{Three}
use Rattle.nbt_store.specs.declared.header.Header.{Header}
use Rattle.nbt_store.specs.declared.resuming.Decided.{Decided}
use Rattle.nbt_store.specs.declared.resuming.Decided.TheVariants.{Goes, Silent}
use Rattle.nbt_store.specs.declared.resuming.Found.{Found}
use Rattle.nbt_store.specs.declared.resuming.Going.{Going}
use Rattle.nbt_store.specs.declared.silence.Onward.{Onward}
use Rattle.nbt_store.specs.declared.silence.Seen.{Seen}
use Rattle.nbt_store.specs.declared.times.Times.{Times}
use Rattle.nbt_store.specs.DiskCalls.{DiskCall, created, installed}
use Rattle.nbt_store.specs.Crashes.{CrashLeaves, folder_of, old_file}
use Rattle.nbt_store.specs.DiskStores.{nothing_asked, tail_at, tail_of}
use Rattle.nbt_serve.specs.Runs.{goes_on, last_left, live_rows, stored_in}
use Rattle.nbt_net.specs.Again.{NextStart, StartBeginsARun, held_of, kept_of}
use Rattle.nbt_net.specs.Headers.{Headed, headed, header_beside, headed_by, headed_after, header_left, AllBeginWith, BeginsWith, CrashLeavesTheFile, CrashLeavesTheHeader, CrashWithinAnOpening, DiskNextStart, FileNextStart, Finds, IsHeaderOf, NextGoesOn, OpeningNextStart, StartFindsLeft}
use Rattle.nbt_net.specs.Starts.{FindsLeft}
use Rattle.nbt_net.proofs.HeadersLeft.{AsksInTurn, asked_since, opened_so}
use Rattle.nbt_net.proofs.RunsWell.{run_went_well}
use Rattle.nbt_net.proofs.Started.{FileHasOneReading}

-- ---- a header of the server's

abbrev IsBesideOf : ServerValue → Option Header → Type 0
IsBesideOf ran None = ⊤
IsBesideOf ran (Some header) = IsHeaderOf ran header

record AreOf (ran : ServerValue) (now : Headed) : Type 0 where
  file : IsHeaderOf ran now.file
  beside : IsBesideOf ran now.beside

header_of_both : (ran : ServerValue) (file : Header) (beside : Option Header) → IsHeaderOf ran file → IsBesideOf ran beside → IsHeaderOf ran (header_beside beside file)
header_of_both ran file None is new = is
header_of_both ran file (Some header) is new = new

are_by : (ran : ServerValue) (call : StoreCall) (now : Headed) → BeginsWith (IsHeaderOf ran) call → AreOf ran now → AreOf ran (headed_by call now)
are_by ran (appended c) now own are = are
are_by ran (append_failed c) now own are = are
are_by ran synced now own are = are
are_by ran sync_failed now own are = are
are_by ran (renewal_began header changes) now own are = record { file = are.file; beside = own }
are_by ran renewal_went_on now own are = are
are_by ran renewed now own are = record { file = header_of_both ran now.file now.beside are.file are.beside; beside = tt }
are_by ran renewal_failed now own are = are

are_after : (ran : ServerValue) (calls : List StoreCall) (now : Headed) → AllBeginWith (IsHeaderOf ran) calls → AreOf ran now → AreOf ran (headed_after calls now)
are_after ran [] now own are = are
are_after ran (call ∷ calls) now own are = are_after ran calls (headed_by call now) own.1 (are_by ran call now own.0 are)

pub first_of_all : (own : Header → Type 0) (calls others : List StoreCall) → AllBeginWith own (calls ++ others) → AllBeginWith own calls
first_of_all own [] others all_own = tt
first_of_all own (call ∷ calls) others all_own = (all_own.0, first_of_all own calls others all_own.1)

header_of_left : (ran : ServerValue) (first : Header) (rows : Rows) (calls : List StoreCall) (left : List Change) (may : MayLeaveAfter (kept_rows first.last rows) calls left) → IsHeaderOf ran first → AllBeginWith (IsHeaderOf ran) calls → IsHeaderOf ran (header_left first may)
header_of_left ran first rows calls left (first_changes may) is own = (are_after ran calls (headed first) own (record { file = is; beside = tt })).file
header_of_left ran first rows calls left (as_drafted before draft e there left_is) is own =
    let are = are_after ran before (headed first) (first_of_all (IsHeaderOf ran) before (renewal_failed ∷ []) (subst (AllBeginWith (IsHeaderOf ran)) e own)) (record { file = is; beside = tt }) in
    header_of_both ran first (headed_after before (headed first)).beside is are.beside

-- ---- a start that goes on has the limits of the file

record HasLimits (h : Header) (config : ConfigValue) : Type 0 where
  life : h.life ≡ config.life
  longest : h.longest ≡ config.longest

passed_over : {A E : Type 0} (test : Bool) (e : E) (rest : Result A E) (x : A) → (if test then Err e else rest) ≡ Ok x → (test ≡ false) × (rest ≡ Ok x)
passed_over true e rest x is = absurd cc
passed_over false e rest x is = (refl, is)

is_so : (test : Bool) → not test ≡ false → test ≡ true
is_so true is = refl
is_so false is = absurd cc

limits_on : (form : Form) (h : Header) (times : Times) (config : ConfigValue) (seen : Seen) (silent : Bool) (o : Onward) → going_on form h times config seen silent ≡ Ok o → HasLimits h config
limits_on form h times config seen silent o is =
    let life = passed_over (not (nat_eq h.life config.life)) _ _ o is in
    let longest = passed_over (not (nat_eq h.longest config.longest)) _ _ o life.1 in
    record { life = eqb-true h.life config.life (is_so (nat_eq h.life config.life) life.0); longest = eqb-true h.longest config.longest (is_so (nat_eq h.longest config.longest) longest.0) }

limits_with : (f : Found) (form : Form) (h : Header) (t : Times) (rows : Rows) (decided : Decided) (going : Going) → GoesOnWith f form h t rows decided → decided ≡ Goes going → HasLimits h f.config
limits_with f form h t rows _ going (not_now why refused) is = absurd cc
limits_with f form h t rows _ going (by_clock onward decided clock on) is = limits_on form h t f.config f.seen f.silent_after_boot onward clock

module _ (one : FileHasOneReading) (f : Found) (there : Bor (List ℕ)) (kept : f.kept ≡ Some there) (now : Header) (left : List Change) (end : ℕ) (file : IsFile there.now Three now left end) where
  limits_found : (decided : Decided) (going : Going) → ResumesAs f decided → decided ≡ Goes going → HasLimits now f.config
  limits_found _ going (nothing_kept none) is = absurd cc
  limits_found _ going (no_file octets fault some bad) is = absurd cc
  limits_found _ going (with_file octets form h t rows decided some loaded goes) is =
      let same : there ≡ octets = cc in
      let moved : IsFile octets.now Three now left end = subst (λ (o : Bor (List ℕ)). IsFile o.now Three now left end) same file in
      let reading = one octets.now form Three h now loaded.changes left loaded.last end loaded.file moved in
      subst (λ (x : Header). HasLimits x f.config) reading.1 (limits_with f form h t rows decided going goes is)

  limits_begun : (b : Begun) (decided : Decided) → ResumesAs f decided → IsBegun f decided b → b.reason ≡ None → HasLimits now f.config
  limits_begun b (Goes going) as_found g none = limits_found (Goes going) going as_found refl
  limits_begun b (Silent reason) as_found g none = let other = g.reason_is in absurd cc

-- ---- what a start finds

finds : FileHasOneReading → (ran : ServerValue) (last : ℕ) (left : List Change) (octets : List ℕ) (now : Header) (end : ℕ) → IsFile octets Three now left end → now.last ≡ last → IsHeaderOf ran now → (f : Found) (b : Begun) → Finds f octets → BeginsAs f b → b.reason ≡ None → FindsLeft ran last left f
finds one ran last left octets now end file last_is own f b found begins none =
    let file_there : IsFile found.0.now Three now left end = subst (λ (o : List ℕ). IsFile o Three now left end) (sym found.2) file in
    let limits = limits_begun one f found.0 found.1 now left end file_there b begins.0 begins.1 begins.2 none in
    record {
      octets = found.0;
      header = now;
      end = end;
      kept = found.1;
      file = file_there;
      last_is = last_is;
      start_is = own.start_is;
      life_is = sym limits.life ∙ own.life_is;
      longest_is = sym limits.longest ∙ own.longest_is;
    }

pub finds_left : {D : Type 0} (does : D → DiskCall → D → Type 0) → FileHasOneReading → CrashLeavesTheHeader does → StartFindsLeft does
finds_left does one law ran header rows disk opened store calls is chain well own all_own =
    let so = law header rows disk opened store calls is chain well in (
      so.0,
      so.1,
      λ folder octets crash.
          let left = so.2 folder octets crash in
          (left.changes, left.may, finds one ran (last_left header.last left.may) left.changes octets (header_left header left.may) left.end left.file left.last_is (header_of_left ran header rows calls left.changes left.may own all_own)),
    )

-- ---- lives, one after another

pub file_next_start : FileHasOneReading → CrashLeavesTheFile → StartBeginsARun → NextStart → FileNextStart
file_next_start one law begins_run next config acts began b clients new seen begins way runs limits before behind are text sum asked last is in_turn all_own octets crash =
    let ran : ServerValue = (held_of clients b).server in
    let own = (begins_run began b clients begins).1 in
    let header : IsHeaderOf ran b.header = record { start_is = own.start; life_is = own.life; longest_is = own.longest } in
    let left = law b.header (live_rows b.server) text sum (stored_in before) asked last is in_turn (run_went_well (held_of clients b) new seen runs before behind are) octets crash in
    let found : (f : Found) (later : Begun) → Finds f octets → BeginsAs f later → later.reason ≡ None → FindsLeft ran (last_left b.header.last left.may) left.changes f =
    finds one ran (last_left b.header.last left.may) left.changes octets (header_left b.header left.may) left.end left.file left.last_is (header_of_left ran b.header (live_rows b.server) (stored_in before) left.changes left.may header all_own) in
    let onward = next config acts (kept_of b) b.header.last (held_of clients b) new seen way runs limits before behind left.changes are left.may in (
      left.changes,
      left.may,
      onward.0,
      λ at f later rows finds_it begun.
          (λ none. (found f later finds_it begun none, (onward.1 at f later rows begun).0 (found f later finds_it begun none) none), (onward.1 at f later rows begun).1),
    )

-- a whole file, of which nothing is lost
pub whole_left : (text octets : List ℕ) → octets ≡ text → CrashLeaves (folder_of text) [] octets
whole_left text octets same = old_file (record { size = length text; at_least = omega arith; left_is = same ∙ sym (take_all (length text) text (omega arith)) })

pub opening_next_start : CrashWithinAnOpening → FileNextStart → OpeningNextStart
opening_next_start within law config acts began b clients begins way limits text sum is folder asked opening octets opens crash = by (within folder asked opening text octets opens crash)
  where
    by : CrashLeaves folder asked octets ⊎ (octets ≡ text) → CrashLeaves folder asked octets ⊎ NextGoesOn config acts b clients [] [] octets
    by (inl before) = inl before
    by (inr same) =
        inr (law config acts began b clients (held_of clients b) [] begins way (goes_on [] (held_of clients b) refl) limits [] [] refl text sum [] (tail_at sum) is (nothing_asked (tail_at sum)) tt octets (whole_left text octets same))

pub disk_next_start : {D : Type 0} (does : D → DiskCall → D → Type 0) → AsksInTurn does → FileNextStart → DiskNextStart does
disk_next_start does in_turn law config acts began b clients new seen begins way runs limits before behind are disk opened store is chain all_own =
    let a = asked_since does in_turn b.header (live_rows b.server) disk opened store (stored_in before) is chain in (
      created is.text ∷ installed ∷ a.0,
      a.1,
      λ folder octets crash. law config acts began b clients new seen begins way runs limits before behind are is.text is.sum a.0 (tail_of store) is.new_file a.2 all_own octets (opened_so folder is.text a.0 octets crash),
    )
