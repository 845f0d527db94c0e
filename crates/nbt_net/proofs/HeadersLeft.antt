-- The header of the file that a crash leaves, in step with the changes that it leaves; and a crash within the opening of a store.
use Rattle.std.proofs.Common.{◌≡◌, ◌≢◌, ◌∙◌, ℕ, false, Option, Some, None, List, [], ◌∷◌, ◌++◌, length, inl, inr, ap, sym, subst, refl, append_assoc, append-nil}
use Rattle.std.specs.Prelude.{◌⊎◌, ⊤}
use Rattle.std.specs.List.{AllByRecursion}
use Rattle.std.specs.Option.{option_map}
use Rattle.std.proofs.lemmas.List.{take_all}
use Rattle.nbt_lease.specs.Lease.{Rows}
use Rattle.nbt_port.proofs.Chains.{chain-append}
use Rattle.nbt_port.specs.PortCalls.{Chain}
use Rattle.nbt_store.specs.Calls.{StoreCall, appended, append_failed, synced, sync_failed, renewal_began, renewal_went_on, renewed, renewal_failed, has_failed, WentWell, Draft, Kept, kept_rows, put_in_place, after_call, after_calls, MayLeaveAfter, first_changes, as_drafted}
use Rattle.nbt_store.specs.Changes.{MayLeave}
use Rattle.nbt_store.specs.Crashes.{Folder, Written, all_synced, changed, more, after_disk_calls, folder_of, in_place, IsCutOf, CrashLeaves, old_file, new_file}
use Rattle.nbt_store.specs.DiskCalls.{DiskCall, created, create_failed, added_beside, add_beside_failed, installed, install_failed, added, add_failed, flushed, flush_failed}
use Rattle.nbt_store.specs.DiskStores.{Asks, AskInTurn, nothing_asked, one_more_asks, GoesOn, asks_nothing, adds_a_part, IsLastPart, IsNewFile, StopsRenewing, before_it, at_front, at_part, at_end, StoreDoes, Tail, disk_of, tail_at, tail_of}
use Rattle.nbt_store.specs.Lines.{IsFile}
use Rattle.nbt_store.specs.declared.change.Change.{Change}
use Rattle.nbt_store.specs.declared.disk_store.DiskStore.{DiskStore}
use Rattle.nbt_store.specs.declared.form.Form.TheVariants.{Three}
use Rattle.nbt_store.specs.declared.header.Header.{Header}
use Rattle.nbt_net.specs.Headers.{Headed, headed, header_beside, headed_by, headed_after, all_of_them, but_the_last, AsksToOpen, nothing_yet, not_made, made, was_not_installed, was_installed, CrashLeavesTheFile, CrashLeavesTheHeader, CrashWithinAnOpening, IsLeftBy, IsOpened}
use Rattle.nbt_net.proofs.Headed.{HasHead, Heads, HeadsNew, head_of_cut, head_more, asked_append, heads_in_turn, heads_at_first, in_step, in_step_at_first, last_is_left}

-- ---- the laws below

-- so much a crash leaves, with some header
abbrev LeavesSome : (h : Header) (rows : Rows) (calls : List StoreCall) (octets : List ℕ) → Type 0
LeavesSome h rows calls octets = (now : Header) × (changes : List Change) × (end : ℕ) × IsFile octets Three now changes end × MayLeaveAfter (kept_rows h.last rows) calls changes

abbrev pub LeavesBetween : Type 0
LeavesBetween = (text : List ℕ) (h : Header) (rows : Rows) (sum : ℕ) (last : Tail) (calls : List StoreCall) (asked : List DiskCall) (left : List ℕ) → IsNewFile text h rows sum → AskInTurn calls (tail_at sum) asked last → WentWell calls → CrashLeaves (folder_of text) asked left
    → LeavesSome h rows calls left

abbrev pub LeavesWithin : Type 0
LeavesWithin = (text : List ℕ) (h : Header) (rows : Rows) (sum : ℕ) (mid next : Tail) (calls : List StoreCall) (last : StoreCall) (asked tail : List DiskCall) (left : List ℕ) → IsNewFile text h rows sum → AskInTurn calls (tail_at sum) asked mid → WentWell calls → Asks last mid tail next
    → CrashLeaves (folder_of text) (asked ++ tail) left → LeavesSome h rows (calls ++ last ∷ []) left

-- ---- no call is one that failed to install a file

abbrev IsFine : DiskCall → Type 0
IsFine install_failed = ⊥
IsFine call = ⊤

abbrev AreFine : List DiskCall → Type 0
AreFine asked = AllByRecursion IsFine asked

fine_append : (a b : List DiskCall) → AreFine a → AreFine b → AreFine (a ++ b)
fine_append [] b fine others = others
fine_append (x ∷ a) b fine others = (fine.0, fine_append a b fine.1 others)

fine_so : (asked is : List DiskCall) → asked ≡ is → AreFine is → AreFine asked
fine_so asked is same fine = subst AreFine (sym same) fine

fine_on : (old new : Tail) (asked : List DiskCall) → GoesOn old asked new → AreFine asked
fine_on old _ _ (asks_nothing none) = tt
fine_on old _ _ (adds_a_part new octets part left last there split few lines) = (tt, tt)

fine_asked : (call : StoreCall) (old new : Tail) (asked : List DiskCall) → Asks call old asked new → has_failed call ≡ false → AreFine asked
fine_asked (appended c) old new asked asks well = fine_so asked (added asks.0 ∷ []) asks.3 (tt, tt)
fine_asked synced old new asked asks well = fine_so asked (flushed ∷ []) asks.0 (tt, tt)
fine_asked (renewal_began header changes) old new asked asks well = fine_so asked (created asks.0 ∷ []) asks.3 (tt, tt)
fine_asked renewal_went_on old new asked asks well = fine_on old new asked asks
fine_asked renewed old new asked asks well = fine_so asked (added_beside asks.0 ∷ installed ∷ []) asks.3 (tt, (tt, tt))
fine_asked (append_failed c) old new asked asks well = absurd cc
fine_asked sync_failed old new asked asks well = absurd cc
fine_asked renewal_failed old new asked asks well = absurd cc

fine_in_turn : (calls : List StoreCall) (old new : Tail) (asked : List DiskCall) → AskInTurn calls old asked new → WentWell calls → AreFine asked
fine_in_turn _ _ _ _ (nothing_asked at) well = tt
fine_in_turn _ _ _ _ (one_more_asks call calls old mid new asked others asks in_turn) well = fine_append asked others (fine_asked call old mid asked asks well.0) (fine_in_turn calls mid new others in_turn well.1)

fine_end : (before : List DiskCall) → AreFine (before ++ install_failed ∷ []) → ⊥
fine_end [] fine = fine.0
fine_end (x ∷ before) fine = fine_end before fine.1

-- ---- what went well was no renewal that failed

well_end : (before : List StoreCall) (last : StoreCall) → WentWell (before ++ last ∷ []) → has_failed last ≡ false
well_end [] last well = well.0
well_end (x ∷ before) last well = well_end before last well.1

well_then : (before : List StoreCall) (last : StoreCall) → WentWell before → has_failed last ≡ false → WentWell (before ++ last ∷ [])
well_then [] last well is = (is, tt)
well_then (x ∷ before) last well is = (well.0, well_then before last well.1 is)

same_end : {A : Type 0} (a b : List A) (x y : A) → a ++ x ∷ [] ≡ b ++ y ∷ [] → x ≡ y
same_end [] [] x y e = cc
same_end [] (z ∷ []) x y e = absurd cc
same_end [] (z ∷ w ∷ b) x y e = absurd cc
same_end (z ∷ []) [] x y e = absurd cc
same_end (z ∷ w ∷ a) [] x y e = absurd cc
same_end (z ∷ a) (w ∷ b) x y e = let rest : a ++ x ∷ [] ≡ b ++ y ∷ [] = cc in same_end a b x y rest

no_draft : (calls before : List StoreCall) → WentWell calls → calls ≡ before ++ renewal_failed ∷ [] → ⊥
no_draft calls before well e = let failed : has_failed renewal_failed ≡ false = well_end before renewal_failed (subst WentWell e well) in absurd cc

-- ---- the first changes, with their header

record LeavesFirst (h : Header) (rows : Rows) (calls : List StoreCall) (octets : List ℕ) : Type 0 where
  changes : List Change
  end : ℕ
  file : IsFile octets Three (headed_after calls (headed h)).file changes end
  may : MayLeave (after_calls calls (kept_rows h.last rows)).changes (after_calls calls (kept_rows h.last rows)).durable changes

left_first : (h : Header) (rows : Rows) (calls : List StoreCall) (octets : List ℕ) → LeavesFirst h rows calls octets → IsLeftBy h rows calls octets
left_first h rows calls octets is = record {
  changes = is.changes;
  end = is.end;
  may = first_changes is.may;
  file = is.file;
  last_is = last_is_left h rows calls is.changes (first_changes is.may);
}

-- of what some law leaves, with the header that the file has
first_of : (h : Header) (rows : Rows) (calls : List StoreCall) (octets : List ℕ) (written : Written) → ((before : List StoreCall) → calls ≡ before ++ renewal_failed ∷ [] → ⊥) → HasHead written (headed_after calls (headed h)).file → IsCutOf written octets → LeavesSome h rows calls octets
    → LeavesFirst h rows calls octets
first_of h rows calls octets written none has cut found = record {
  changes = found.1;
  end = found.2;
  file = subst (λ (x : Header). IsFile octets Three x found.1 found.2) (head_of_cut written (headed_after calls (headed h)).file found.0 octets found.1 found.2 has cut found.3) found.3;
  may = by found.4;
} where
  by : MayLeaveAfter (kept_rows h.last rows) calls found.1 → MayLeave (after_calls calls (kept_rows h.last rows)).changes (after_calls calls (kept_rows h.last rows)).durable found.1
  by (first_changes may) = may
  by (as_drafted before draft e there left_is) = absurd (none before e)

module _ (law : LeavesBetween) (text : List ℕ) (h : Header) (rows : Rows) (sum : ℕ) (new : IsNewFile text h rows sum) where
  heads_between : (last : Tail) (calls : List StoreCall) (asked : List DiskCall) → AskInTurn calls (tail_at sum) asked last → WentWell calls → Heads (after_disk_calls asked (folder_of text)) (headed_after calls (headed h)) last
  heads_between last calls asked in_turn well = heads_in_turn calls (tail_at sum) last asked (folder_of text) (headed h) in_turn well (heads_at_first text h rows sum new)

  -- a crash leaves the file
  file_between : (last : Tail) (calls : List StoreCall) (asked : List DiskCall) (octets : List ℕ) → AskInTurn calls (tail_at sum) asked last → WentWell calls → IsCutOf (after_disk_calls asked (folder_of text)).file octets → LeavesFirst h rows calls octets
  file_between last calls asked octets in_turn well cut =
      first_of h rows calls octets (after_disk_calls asked (folder_of text)).file (λ before. no_draft calls before well) (heads_between last calls asked in_turn well).file cut (law text h rows sum last calls asked octets new in_turn well (old_file cut))

  left_between : (last : Tail) (calls : List StoreCall) (asked : List DiskCall) (octets : List ℕ) → AskInTurn calls (tail_at sum) asked last → WentWell calls → CrashLeaves (folder_of text) asked octets → LeavesFirst h rows calls octets
  left_between last calls asked octets in_turn well (old_file cut) = file_between last calls asked octets in_turn well cut
  left_between last calls asked octets in_turn well (new_file before other e some cut) = absurd (fine_end before (subst AreFine e (fine_in_turn calls (tail_at sum) last asked in_turn well)))

-- ---- within a call

headed_then : (calls : List StoreCall) (last : StoreCall) (now : Headed) → headed_after (calls ++ last ∷ []) now ≡ headed_by last (headed_after calls now)
headed_then [] last now = refl
headed_then (call ∷ calls) last now = headed_then calls last (headed_by call now)

calls_then : (calls : List StoreCall) (last : StoreCall) (kept : Kept) → after_calls (calls ++ last ∷ []) kept ≡ after_call last (after_calls calls kept)
calls_then [] last kept = refl
calls_then (call ∷ calls) last kept = calls_then calls last (after_call call kept)

in_turn_then : (calls : List StoreCall) (last : StoreCall) (old mid new : Tail) (asked tail : List DiskCall) → AskInTurn calls old asked mid → Asks last mid tail new → AskInTurn (calls ++ last ∷ []) old (asked ++ tail) new
in_turn_then _ last _ _ new _ tail (nothing_asked at) asks = subst (λ (xs : List DiskCall). AskInTurn (last ∷ []) at xs new) (append-nil tail) (one_more_asks last [] at new new tail [] asks (nothing_asked new))
in_turn_then _ last _ _ new _ tail (one_more_asks call calls old mid end asked others asks in_turn) then =
    subst (λ (xs : List DiskCall). AskInTurn (call ∷ (calls ++ last ∷ [])) old xs new) (sym (append_assoc asked others tail)) (one_more_asks call (calls ++ last ∷ []) old mid new asked (others ++ tail) asks (in_turn_then calls last mid end new others tail in_turn then))

-- the same file, where nothing was done to it
same_file : (old : Tail) (tail : List DiskCall) (folder : Folder) → StopsRenewing old tail → (after_disk_calls tail folder).file ≡ folder.file
same_file old _ folder before_it = refl
same_file old _ folder (at_front front header leases last is) = refl
same_file old _ folder (at_part new octets part left last there split lines) = refl
same_file old _ folder (at_end octets last is) = refl

some_draft : (draft : Option Draft) (last : ℕ) → option_map (λ d. d.last) draft ≡ Some last → (d : Draft) × (draft ≡ Some d)
some_draft None last is = absurd cc
some_draft (Some d) last is = (d, refl)

-- all changes of a draft are left
all_drafted : (draft : Option Draft) (d : Draft) (kept : Kept) (changes : List Change) → draft ≡ Some d → MayLeave (put_in_place draft kept).changes (put_in_place draft kept).durable changes → changes ≡ d.changes
all_drafted draft d kept changes is may =
    let here : MayLeave d.changes (length d.changes) changes = subst (λ (x : Option Draft). MayLeave (put_in_place x kept).changes (put_in_place x kept).durable changes) is may in
    here.left_is ∙ take_all here.count d.changes here.at_least

module _ (between : LeavesBetween) (within : LeavesWithin) (text : List ℕ) (h : Header) (rows : Rows) (sum : ℕ) (new : IsNewFile text h rows sum) (mid : Tail) (calls : List StoreCall) (asked : List DiskCall) (in_turn : AskInTurn calls (tail_at sum) asked mid) (well : WentWell calls) where
  abbrev now : Headed
  now = headed_after calls (headed h)

  abbrev here : Folder
  here = after_disk_calls asked (folder_of text)

  heads : Heads here now mid
  heads = heads_between between text h rows sum new mid calls asked in_turn well

  -- the call went well
  within_well : (next : Tail) (last : StoreCall) (tail : List DiskCall) (octets : List ℕ) → Asks last mid tail next → has_failed last ≡ false → CrashLeaves (folder_of text) (asked ++ tail) octets → IsLeftBy h rows (calls ++ last ∷ []) octets
  within_well next last tail octets asks is crash =
      left_first h rows (calls ++ last ∷ []) octets (left_between between text h rows sum new next (calls ++ last ∷ []) (asked ++ tail) octets (in_turn_then calls last (tail_at sum) mid next asked tail in_turn asks) (well_then calls last well is) crash)

  -- a write or a sync of the file failed
  within_file : (next : Tail) (last : StoreCall) (tail : List DiskCall) (octets : List ℕ) → Asks last mid tail next → last ≢ renewal_failed → headed_by last now ≡ now → AreFine tail → HasHead (after_disk_calls tail here).file now.file → CrashLeaves (folder_of text) (asked ++ tail) octets
      → IsLeftBy h rows (calls ++ last ∷ []) octets
  within_file next last tail octets asks not same fine has (old_file cut) =
      let header : HasHead (after_disk_calls (asked ++ tail) (folder_of text)).file (headed_after (calls ++ last ∷ []) (headed h)).file =
      subst (λ (x : Headed). HasHead (after_disk_calls (asked ++ tail) (folder_of text)).file x.file) (sym (headed_then calls last (headed h) ∙ same)) (subst (λ (f : Folder). HasHead f.file now.file) (sym (asked_append asked tail (folder_of text))) has) in
      left_first h rows (calls ++ last ∷ []) octets
      (first_of h rows (calls ++ last ∷ []) octets (after_disk_calls (asked ++ tail) (folder_of text)).file (λ before e. not (same_end calls before last renewal_failed e)) header cut
      (within text h rows sum mid next calls last asked tail octets new in_turn well asks (old_file cut)))
  within_file next last tail octets asks not same fine has (new_file before other e some cut) = absurd (fine_end before (subst AreFine e (fine_append asked tail (fine_in_turn calls (tail_at sum) mid asked in_turn well) fine)))

  not_written : (c : Change) (next : Tail) (tail : List DiskCall) (octets : List ℕ) → Asks (append_failed c) mid tail next → CrashLeaves (folder_of text) (asked ++ tail) octets → IsLeftBy h rows (calls ++ append_failed c ∷ []) octets
  not_written c next tail octets (inl e) crash =
      within_file next (append_failed c) tail octets (inl e) (λ is. absurd cc) refl (fine_so tail [] e tt) (subst (λ (xs : List DiskCall). HasHead (after_disk_calls xs here).file now.file) (sym e) heads.file) crash
  not_written c next tail octets (inr a) crash =
      within_file next (append_failed c) tail octets (inr a) (λ is. absurd cc) refl (fine_so tail (add_failed a.0 ∷ []) a.3 (tt, tt))
      (subst (λ (xs : List DiskCall). HasHead (after_disk_calls xs here).file now.file) (sym a.3) (head_more a.0 here.file now.file heads.file)) crash

  not_synced : (next : Tail) (tail : List DiskCall) (octets : List ℕ) → Asks sync_failed mid tail next → CrashLeaves (folder_of text) (asked ++ tail) octets → IsLeftBy h rows (calls ++ sync_failed ∷ []) octets
  not_synced next tail octets (inl e) crash =
      within_file next sync_failed tail octets (inl e) (λ is. absurd cc) refl (fine_so tail [] e tt) (subst (λ (xs : List DiskCall). HasHead (after_disk_calls xs here).file now.file) (sym e) heads.file) crash
  not_synced next tail octets (inr e) crash =
      within_file next sync_failed tail octets (inr e) (λ is. absurd cc) refl (fine_so tail (flush_failed ∷ []) e (tt, tt)) (subst (λ (xs : List DiskCall). HasHead (after_disk_calls xs here).file now.file) (sym e) heads.file) crash

  -- a renewal failed: the file is left
  stopped_old : (tail : List DiskCall) (octets : List ℕ) → StopsRenewing mid tail → IsCutOf (after_disk_calls (asked ++ tail) (folder_of text)).file octets → IsLeftBy h rows (calls ++ renewal_failed ∷ []) octets
  stopped_old tail octets stops cut =
      let same : (after_disk_calls (asked ++ tail) (folder_of text)).file ≡ here.file = ap (λ (f : Folder). f.file) (asked_append asked tail (folder_of text)) ∙ same_file mid tail here stops in
      let first = file_between between text h rows sum new mid calls asked octets in_turn well (subst (λ (w : Written). IsCutOf w octets) same cut) in
      left_first h rows (calls ++ renewal_failed ∷ []) octets (record {
        changes = first.changes;
        end = first.end;
        file = subst (λ (x : Headed). IsFile octets Three x.file first.changes first.end) (sym (headed_then calls renewal_failed (headed h))) first.file;
        may = subst (λ (k : Kept). MayLeave k.changes k.durable first.changes) (sym (calls_then calls renewal_failed (kept_rows h.last rows))) first.may;
      })

  -- or the new file, as if it had taken the file's place
  stopped_new : (part : List ℕ) (last : ℕ) (octets : List ℕ) (other : Written) → IsLastPart mid part last → (after_disk_calls (asked ++ added_beside part ∷ install_failed ∷ []) (folder_of text)).beside ≡ Some other → IsCutOf other octets → IsLeftBy h rows (calls ++ renewal_failed ∷ []) octets
  stopped_new part last octets other is some cut =
      let grown : changed (λ (w : Written). all_synced (more part w)) here.beside ≡ Some other = ap (λ (f : Folder). f.beside) (sym (asked_append asked (added_beside part ∷ install_failed ∷ []) (folder_of text))) ∙ some in
      let file_is : (after_disk_calls (asked ++ added_beside part ∷ installed ∷ []) (folder_of text)).file ≡ other =
      ap (λ (f : Folder). f.file) (asked_append asked (added_beside part ∷ installed ∷ []) (folder_of text)) ∙ ap (λ (b : Option Written). (in_place here.file b).file) grown in
      let first = file_between between text h rows sum new (tail_at last) (calls ++ renewed ∷ []) (asked ++ added_beside part ∷ installed ∷ []) octets
      (in_turn_then calls renewed (tail_at sum) mid (tail_at last) asked (added_beside part ∷ installed ∷ []) in_turn (part, last, is, refl, refl)) (well_then calls renewed well refl) (subst (λ (w : Written). IsCutOf w octets) (sym file_is) cut) in
      let has : HeadsNew here.beside now.beside (Some is.new) = subst (HeadsNew here.beside now.beside) is.there heads.new in
      let step = in_step calls (kept_rows h.last rows) h.last (headed h) (in_step_at_first h rows) in
      let draft = some_draft (after_calls calls (kept_rows h.last rows)).draft has.1.last (step.new ∙ ap (option_map (λ x. x.last)) has.3) in
      let may : MayLeave (put_in_place (after_calls calls (kept_rows h.last rows)).draft (after_calls calls (kept_rows h.last rows))).changes (put_in_place (after_calls calls (kept_rows h.last rows)).draft (after_calls calls (kept_rows h.last rows))).durable first.changes =
      subst (λ (k : Kept). MayLeave k.changes k.durable first.changes) (calls_then calls renewed (kept_rows h.last rows)) first.may in
      let changes_are : first.changes ≡ draft.0.changes = all_drafted (after_calls calls (kept_rows h.last rows)).draft draft.0 (after_calls calls (kept_rows h.last rows)) first.changes draft.1 may in
      let drafted : MayLeaveAfter (kept_rows h.last rows) (calls ++ renewal_failed ∷ []) first.changes = as_drafted calls draft.0 refl draft.1 changes_are in
      let header : (headed_after (calls ++ renewed ∷ []) (headed h)).file ≡ header_beside now.beside h =
      ap (λ (x : Headed). x.file) (headed_then calls renewed (headed h)) ∙ ap (λ (b : Option Header). header_beside b now.file) has.3 ∙ sym (ap (λ (b : Option Header). header_beside b h) has.3) in
      record {
        changes = first.changes;
        end = first.end;
        may = drafted;
        file = subst (λ (x : Header). IsFile octets Three x first.changes first.end) header first.file;
        last_is = last_is_left h rows (calls ++ renewal_failed ∷ []) first.changes drafted;
      }

  not_fine : (tail : List DiskCall) (octets : List ℕ) (before : List DiskCall) → AreFine tail → asked ++ tail ≡ before ++ install_failed ∷ [] → IsLeftBy h rows (calls ++ renewal_failed ∷ []) octets
  not_fine tail octets before fine e = absurd (fine_end before (subst AreFine e (fine_append asked tail (fine_in_turn calls (tail_at sum) mid asked in_turn well) fine)))

  stopped : (tail : List DiskCall) (octets : List ℕ) → StopsRenewing mid tail → CrashLeaves (folder_of text) (asked ++ tail) octets → IsLeftBy h rows (calls ++ renewal_failed ∷ []) octets
  stopped tail octets stops (old_file cut) = stopped_old tail octets stops cut
  stopped _ octets before_it (new_file before other e some cut) = not_fine [] octets before tt e
  stopped _ octets (at_front front header leases last is) (new_file before other e some cut) = not_fine (create_failed front ∷ []) octets before (tt, tt) e
  stopped _ octets (at_part beside part lines rest last there split are) (new_file before other e some cut) = not_fine (add_beside_failed part ∷ []) octets before (tt, tt) e
  stopped _ octets (at_end part last is) (new_file before other e some cut) = stopped_new part last octets other is some cut

  left_within : (next : Tail) (last : StoreCall) (tail : List DiskCall) (octets : List ℕ) → Asks last mid tail next → CrashLeaves (folder_of text) (asked ++ tail) octets → IsLeftBy h rows (calls ++ last ∷ []) octets
  left_within next (appended c) tail octets asks crash = within_well next (appended c) tail octets asks refl crash
  left_within next synced tail octets asks crash = within_well next synced tail octets asks refl crash
  left_within next (renewal_began header changes) tail octets asks crash = within_well next (renewal_began header changes) tail octets asks refl crash
  left_within next renewal_went_on tail octets asks crash = within_well next renewal_went_on tail octets asks refl crash
  left_within next renewed tail octets asks crash = within_well next renewed tail octets asks refl crash
  left_within next (append_failed c) tail octets asks crash = not_written c next tail octets asks crash
  left_within next sync_failed tail octets asks crash = not_synced next tail octets asks crash
  left_within next renewal_failed tail octets asks crash = stopped tail octets asks crash

-- ---- calls that all went well, but maybe the last

-- what the first calls asked, and what the last one did
record SplitsTurn (before : List StoreCall) (call : StoreCall) (old new : Tail) (asked : List DiskCall) : Type 0 where
  mid : Tail
  first : List DiskCall
  tail : List DiskCall
  in_turn : AskInTurn before old first mid
  asks : Asks call mid tail new
  asked_are : asked ≡ first ++ tail

none_asked : (calls : List StoreCall) (old new : Tail) (asked : List DiskCall) → AskInTurn calls old asked new → calls ≡ [] → (asked ≡ []) × (new ≡ old)
none_asked _ _ _ _ (nothing_asked at) is = (refl, refl)
none_asked _ _ _ _ (one_more_asks call calls old mid new asked others asks in_turn) is = absurd cc

turn_split : (calls : List StoreCall) (old new : Tail) (asked : List DiskCall) → AskInTurn calls old asked new → (before : List StoreCall) (call : StoreCall) → calls ≡ before ++ call ∷ [] → SplitsTurn before call old new asked
turn_split _ _ _ _ (nothing_asked at) [] call e = absurd cc
turn_split _ _ _ _ (nothing_asked at) (x ∷ before) call e = absurd cc
turn_split _ _ _ _ (one_more_asks c calls old mid new asked others asks in_turn) [] call e =
    let same : c ≡ call = cc in
    let rest : calls ≡ [] = cc in
    let none = none_asked calls mid new others in_turn rest in
    record {
      mid = old;
      first = [];
      tail = asked;
      in_turn = nothing_asked old;
      asks = subst (λ (x : StoreCall). Asks x old asked new) same (subst (λ (t : Tail). Asks c old asked t) (sym none.1) asks);
      asked_are = ap (λ (xs : List DiskCall). asked ++ xs) none.0 ∙ append-nil asked;
    }
turn_split _ _ _ _ (one_more_asks c calls old mid new asked others asks in_turn) (x ∷ before) call e =
    let same : c ≡ x = cc in
    let rest : calls ≡ before ++ call ∷ [] = cc in
    let on = turn_split calls mid new others in_turn before call rest in
    record {
      mid = on.mid;
      first = asked ++ on.first;
      tail = on.tail;
      in_turn = subst (λ (y : StoreCall). AskInTurn (y ∷ before) old (asked ++ on.first) on.mid) same (one_more_asks c before old mid on.mid asked on.first asks on.in_turn);
      asks = on.asks;
      asked_are = ap (λ (xs : List DiskCall). asked ++ xs) on.asked_are ∙ sym (append_assoc asked on.first on.tail);
    }

pub leaves_the_file : LeavesBetween → LeavesWithin → CrashLeavesTheFile
leaves_the_file between within header rows text sum calls asked last new in_turn (all_of_them well) octets crash = left_first header rows calls octets (left_between between text header rows sum new last calls asked octets in_turn well crash)
leaves_the_file between within header rows text sum calls asked last new in_turn (but_the_last before call e well) octets crash =
    let split = turn_split calls (tail_at sum) last asked in_turn before call e in
    subst (λ (cs : List StoreCall). IsLeftBy header rows cs octets) (sym e)
    (left_within between within text header rows sum new split.mid before split.first split.in_turn well last call split.tail octets split.asks (subst (λ (xs : List DiskCall). CrashLeaves (folder_of text) xs octets) split.asked_are crash))

-- ---- a store that is opened

-- what was there before is gone
pub opened_so : (folder : Folder) (text : List ℕ) (asked : List DiskCall) (octets : List ℕ) → CrashLeaves folder (created text ∷ installed ∷ asked) octets → CrashLeaves (folder_of text) asked octets
opened_so folder text asked octets (old_file cut) = old_file cut
opened_so folder text asked octets (new_file [] new e some cut) = absurd cc
opened_so folder text asked octets (new_file (x ∷ []) new e some cut) = absurd cc
opened_so folder text asked octets (new_file (x ∷ y ∷ before) new e some cut) = let rest : asked ≡ before ++ install_failed ∷ [] = cc in new_file before new rest some cut

abbrev pub AsksInTurn : {D : Type 0} → (D → DiskCall → D → Type 0) → Type 0
AsksInTurn {D} does = (old new : DiskStore D) (calls : List StoreCall) → Chain (StoreDoes does) old calls new → (asked : List DiskCall) × Chain does (disk_of old) asked (disk_of new) × AskInTurn calls (tail_of old) asked (tail_of new)

-- what such a store asked since
pub asked_since : {D : Type 0} (does : D → DiskCall → D → Type 0) → AsksInTurn does → (header : Header) (rows : Rows) (disk : D) (opened store : DiskStore D) (calls : List StoreCall) (is : IsOpened does header rows disk opened) → Chain (StoreDoes does) opened calls store
    → (asked : List DiskCall) × Chain does disk (created is.text ∷ installed ∷ asked) (disk_of store) × AskInTurn calls (tail_at is.sum) asked (tail_of store)
asked_since does in_turn header rows disk opened store calls is chain =
    let a = in_turn opened store calls chain in (
      a.0,
      chain-append does disk (disk_of opened) (disk_of store) (created is.text ∷ installed ∷ []) a.0 is.did a.1,
      subst (λ (t : Tail). AskInTurn calls t a.0 (tail_of store)) is.goes_on a.2,
    )

pub leaves_the_header : {D : Type 0} (does : D → DiskCall → D → Type 0) → AsksInTurn does → CrashLeavesTheFile → CrashLeavesTheHeader does
leaves_the_header does in_turn law header rows disk opened store calls is chain well =
    let a = asked_since does in_turn header rows disk opened store calls is chain in
    (created is.text ∷ installed ∷ a.0, a.1, λ folder octets crash. law header rows is.text is.sum calls a.0 (tail_of store) is.new_file a.2 well octets (opened_so folder is.text a.0 octets crash))

-- ---- within the opening

-- the whole of a file that is durable
whole_cut : (text octets : List ℕ) → IsCutOf (record { octets = text; synced = length text }) octets → octets ≡ text
whole_cut text octets cut = cut.left_is ∙ take_all cut.size text cut.at_least

module _ (folder : Folder) (asked : List DiskCall) (text octets : List ℕ) where
  abbrev there : Folder
  there = after_disk_calls asked folder

  -- the file is as it was
  still : (opening : List DiskCall) → (after_disk_calls opening there).file ≡ there.file → IsCutOf (after_disk_calls (asked ++ opening) folder).file octets → CrashLeaves folder asked octets
  still opening same cut = old_file (subst (λ (w : Written). IsCutOf w octets) (ap (λ (f : Folder). f.file) (asked_append asked opening folder) ∙ same) cut)

  within_opening : (opening : List DiskCall) → AsksToOpen text opening → CrashLeaves folder (asked ++ opening) octets → CrashLeaves folder asked octets ⊎ (octets ≡ text)
  within_opening _ nothing_yet crash = inl (subst (λ (xs : List DiskCall). CrashLeaves folder xs octets) (append-nil asked) crash)
  within_opening _ not_made (old_file cut) = inl (still (create_failed text ∷ []) refl cut)
  within_opening _ made (old_file cut) = inl (still (created text ∷ []) refl cut)
  within_opening _ was_not_installed (old_file cut) = inl (still (created text ∷ install_failed ∷ []) refl cut)
  within_opening _ was_installed (old_file cut) = inr (whole_cut text octets (subst (λ (f : Folder). IsCutOf f.file octets) (asked_append asked (created text ∷ installed ∷ []) folder) cut))
  within_opening _ not_made (new_file before new e some cut) = let clash = same_end asked before (create_failed text) install_failed e in absurd cc
  within_opening _ made (new_file before new e some cut) = let clash = same_end asked before (created text) install_failed e in absurd cc
  within_opening _ was_not_installed (new_file before new e some cut) =
      let is : Some (record { octets = text; synced = length text }) ≡ Some new = ap (λ (f : Folder). f.beside) (sym (asked_append asked (created text ∷ install_failed ∷ []) folder)) ∙ some in
      let same : record { octets = text; synced = length text } ≡ new = cc in
      inr (whole_cut text octets (subst (λ (w : Written). IsCutOf w octets) (sym same) cut))
  within_opening _ was_installed (new_file before new e some cut) =
      let clash = same_end (asked ++ created text ∷ []) before installed install_failed (append_assoc asked (created text ∷ []) (installed ∷ []) ∙ e) in absurd cc

pub crash_within_an_opening : CrashWithinAnOpening
crash_within_an_opening folder asked opening text octets opens crash = within_opening folder asked text octets opening opens crash
