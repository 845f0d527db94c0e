-- What a store does, call by call, and what is kept after its calls (our profile).
use Rattle.std.specs.Prelude.{◌≡◌, ℕ, Bool, true, false, Option, Some, None, List, [], ◌∷◌, ◌++◌, length, Result, Ok, Err}
use Rattle.std.specs.List.{AllByRecursion}
use Rattle.nbt_lease.specs.Lease.{Rows}
use Rattle.nbt_store.specs.declared.change.Change.{Change}
use Rattle.nbt_store.specs.declared.header.Header.{Header}
use Rattle.nbt_store.specs.Changes.{MayLeave, begun_all}

-- One call of a store, with what came of it: a change was appended, all changes were made durable; a new file was begun beside the file,
-- with this header and these changes, it was gone on with, or it took the file's place; or that failed.
pub data StoreCall : Type 0 where
  appended : Change → StoreCall
  append_failed : Change → StoreCall
  synced : StoreCall
  sync_failed : StoreCall
  renewal_began : Header → List Change → StoreCall
  renewal_went_on : StoreCall
  renewed : StoreCall
  renewal_failed : StoreCall

-- what a call was, by what it returned
abbrev pub appending : {A E : Type 0} → Change → Result A E → StoreCall
appending change (Ok done) = appended change
appending change (Err why) = append_failed change

abbrev pub syncing : {A E : Type 0} → Result A E → StoreCall
syncing (Ok done) = synced
syncing (Err why) = sync_failed

abbrev pub beginning : {A E : Type 0} → Header → List Change → Result A E → StoreCall
beginning header changes (Ok done) = renewal_began header changes
beginning header changes (Err why) = renewal_failed

-- whether the new file took the file's place is what it returned
abbrev pub going_on : {E : Type 0} → Result Bool E → StoreCall
going_on (Ok false) = renewal_went_on
going_on (Ok true) = renewed
going_on (Err why) = renewal_failed

abbrev pub has_failed : StoreCall → Bool
has_failed (append_failed change) = true
has_failed sync_failed = true
has_failed renewal_failed = true
has_failed call = false

-- calls that all went well
abbrev pub WentWell : List StoreCall → Type 0
WentWell calls = AllByRecursion (λ call. has_failed call ≡ false) calls

-- ---- what is kept

-- a new file that is being written beside the file: LAST of its header, and all its changes, whether their lines are written or not
pub record Draft : Type 0 where
  pub last : ℕ
  pub changes : List Change

-- All changes since the file was written, those by which its leases began first; how many of them every crash leaves; and the new file,
-- if there is one.
pub record Kept : Type 0 where
  pub changes : List Change
  pub durable : ℕ
  pub draft : Option Draft

-- a file of these changes alone, all of them durable
abbrev pub kept_all : List Change → Kept
kept_all changes = record { changes = changes; durable = length changes; draft = None }

-- what a file keeps that was just written with these leases, at this time
abbrev pub kept_rows : (at : ℕ) → Rows → Kept
kept_rows at rows = kept_all (begun_all at rows)

-- a change goes into the new file too
abbrev pub with_change : Change → Option Draft → Option Draft
with_change change None = None
with_change change (Some draft) = Some (record draft { changes = draft.changes ++ change ∷ [] })

-- the new file in place of the file
abbrev pub put_in_place : Option Draft → Kept → Kept
put_in_place None kept = kept
put_in_place (Some draft) kept = kept_all draft.changes

-- What is kept after a call. An append that failed may have reached the disk or not, so its change is there and isn't durable;
-- after a renewal that failed see MayLeaveAfter.
abbrev pub after_call : StoreCall → Kept → Kept
after_call (appended change) kept = record { changes = kept.changes ++ change ∷ []; durable = kept.durable; draft = with_change change kept.draft }
after_call (append_failed change) kept = record { changes = kept.changes ++ change ∷ []; durable = kept.durable; draft = with_change change kept.draft }
after_call synced kept = record { changes = kept.changes; durable = length kept.changes; draft = kept.draft }
after_call sync_failed kept = kept
after_call (renewal_began header changes) kept = record { changes = kept.changes; durable = kept.durable; draft = Some (record { last = header.last; changes = changes }) }
after_call renewal_went_on kept = kept
after_call renewed kept = put_in_place kept.draft kept
after_call renewal_failed kept = kept

abbrev pub after_calls : List StoreCall → Kept → Kept
after_calls [] kept = kept
after_calls (call ∷ calls) kept = after_calls calls (after_call call kept)

-- What a crash after these calls, or within the last of them where that one failed, may leave: the first changes, those that are
-- durable at least; or all changes of the new file, where a renewal failed last.
pub data MayLeaveAfter (kept : Kept) (calls : List StoreCall) (left : List Change) : Type 0 where
  first_changes : MayLeave (after_calls calls kept).changes (after_calls calls kept).durable left → MayLeaveAfter kept calls left
  as_drafted : (before : List StoreCall) (draft : Draft) → calls ≡ before ++ renewal_failed ∷ [] → (after_calls before kept).draft ≡ Some draft → left ≡ draft.changes → MayLeaveAfter kept calls left
