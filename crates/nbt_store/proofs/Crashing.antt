-- What a crash leaves of a disk, after the calls of a store over it: a file of the first changes.
use Rattle.std.proofs.Common.{◌≡◌, ◌≢◌, ◌∙◌, ℕ, ◌≤◌, false, Option, Some, None, List, [], ◌∷◌, ◌++◌, length, inl, inr, ap, sym, subst, refl, append_assoc, append-nil, arith}
use Rattle.std.specs.Prelude.{◌⊎◌}
use Rattle.std.proofs.lemmas.List.{length-append, take_all, take-append-le}
use Rattle.nbt_lease.specs.Lease.{Rows}
use Rattle.nbt_port.proofs.Chains.{chain-append}
use Rattle.nbt_port.specs.PortCalls.{Chain}
use Rattle.nbt_text.specs.Lines.{one_line}
use Rattle.nbt_store.specs.declared.change.Change.{Change}
use Rattle.nbt_store.specs.declared.disk_store.DiskStore.{DiskStore}
use Rattle.nbt_store.specs.declared.header.Header.{Header}
use Rattle.nbt_store.specs.declared.form.Form.TheVariants.{Three}
use Rattle.nbt_store.specs.Calls.{StoreCall, appended, append_failed, synced, sync_failed, renewal_began, renewal_went_on, renewed, renewal_failed, has_failed, WentWell, Draft, Kept, kept_rows, with_change, put_in_place, after_call, after_calls, MayLeaveAfter, first_changes, as_drafted}
use Rattle.nbt_store.specs.Changes.{MayLeave, begun_all}
use Rattle.nbt_store.specs.Crashes.{Folder, Written, all_synced, changed, more, after_disk_call, after_disk_calls, folder_of, in_place, IsCutOf, CrashLeaves, old_file, new_file}
use Rattle.nbt_store.specs.DiskCalls.{DiskCall, created, create_failed, added_beside, add_beside_failed, installed, install_failed, added, add_failed, flushed, flush_failed}
use Rattle.nbt_store.specs.DiskStores.{AreNewLines, no_lines, one_more_line, Asks, AskInTurn, nothing_asked, one_more_asks, Beside, GoesOn, asks_nothing, adds_a_part, IsLastPart, IsNewFile, IsNewFront, IsNewLine, StopsRenewing, before_it, at_front, at_part, at_end, StoreDoes, Tail, disk_of, tail_at, tail_of, with_line_of}
use Rattle.nbt_store.specs.Lines.{HaveLines, IsClosed, IsFile}
use Rattle.nbt_store.proofs.WholeLines.{after_crash, one_more_change, one_more_line as line_behind, closed_by}

-- ---- a file of all changes, whose front is a file of those that are durable

abbrev written_at : (octets : List ℕ) → (size : ℕ) → Written
written_at octets size = record { octets = octets; synced = size }

-- A new file is there, all of it durable: it has the lines of the first changes of the draft, and the others have none yet.
record HasPart (beside : Option Written) (draft : Option Draft) (new : Beside) : Type 0 where
  text : List ℕ
  header : Header
  done : List Change
  beside_is : beside ≡ Some (written_at text (length text))
  draft_is : draft ≡ Some (record { last = header.last; changes = done ++ new.left })
  lines : HaveLines text Three (record { header = header; leases = new.leases }) done new.sum
  closed : IsClosed text
  enough : new.leases ≤ length (done ++ new.left)

-- whatever is there beside the file, where there is no draft
abbrev HoldsNew : Option Written → Option Draft → Option Beside → Type 0
HoldsNew beside draft None = draft ≡ None
HoldsNew beside draft (Some new) = HasPart beside draft new

record Holds (folder : Folder) (h : Header) (kept : Kept) (tail : Tail) : Type 0 where
  front : List ℕ
  behind : List ℕ
  durable : List Change
  file_is : folder.file ≡ written_at (front ++ behind) (length front)
  file : IsFile (front ++ behind) Three h kept.changes tail.sum
  closed : IsClosed (front ++ behind)
  durable_sum : ℕ
  front_file : IsFile front Three h durable durable_sum
  as_many : length durable ≡ kept.durable
  new : HoldsNew folder.beside kept.draft tail.beside

-- a file of these changes is left
abbrev LeavesOf : (left : List ℕ) → (List Change → Type 0) → Type 0
LeavesOf left P = (h : Header) × (changes : List Change) × (end : ℕ) × IsFile left Three h changes end × P changes

-- what a crash leaves of the file
cut_held : (folder : Folder) (h : Header) (kept : Kept) (tail : Tail) (left : List ℕ) → Holds folder h kept tail → IsCutOf folder.file left → LeavesOf left (MayLeave kept.changes kept.durable)
cut_held folder h kept tail left held cut =
    let here : IsCutOf (written_at (held.front ++ held.behind) (length held.front)) left = subst (λ (f : Written). IsCutOf f left) held.file_is cut in
    let found = after_crash held.front held.behind h held.durable kept.changes held.durable_sum tail.sum here.size held.front_file held.file here.at_least in
    (h, found.0, found.1, subst (λ (octets : List ℕ). IsFile octets Three h found.0 found.1) (sym here.left_is) found.2, subst (λ (n : ℕ). MayLeave kept.changes n found.0) held.as_many found.3)

-- a whole file, all of which is synced
held_whole : (folder : Folder) (octets : List ℕ) (h : Header) (changes : List Change) (draft : Option Draft) (tail : Tail) → folder.file ≡ written_at octets (length octets) → IsFile octets Three h changes tail.sum → IsClosed octets → HoldsNew folder.beside draft tail.beside
    → Holds folder h (record { changes = changes; durable = length changes; draft = draft }) tail
held_whole folder octets h changes draft tail is file closed new = record {
  front = octets;
  behind = [];
  durable = changes;
  file_is = is ∙ ap (λ (o : List ℕ). written_at o (length octets)) (sym (append-nil octets));
  file = subst (λ (o : List ℕ). IsFile o Three h changes tail.sum) (sym (append-nil octets)) file;
  closed = subst IsClosed (sym (append-nil octets)) closed;
  durable_sum = tail.sum;
  front_file = file;
  as_many = refl;
  new = new;
}

-- the same file, with another new one
held_beside : (folder after : Folder) (h : Header) (kept : Kept) (tail : Tail) (draft : Option Draft) (beside : Option Beside) → Holds folder h kept tail → after.file ≡ folder.file → HoldsNew after.beside draft beside
    → Holds after h (record { changes = kept.changes; durable = kept.durable; draft = draft }) (record { sum = tail.sum; beside = beside })
held_beside folder after h kept tail draft beside held same new = record {
  front = held.front;
  behind = held.behind;
  durable = held.durable;
  file_is = same ∙ held.file_is;
  file = held.file;
  closed = held.closed;
  durable_sum = held.durable_sum;
  front_file = held.front_file;
  as_many = held.as_many;
  new = new;
}

-- ---- the new file

-- lines more, all of them durable
lines_behind : (text : List ℕ) (head : _) (done : List Change) (sum : ℕ) (part : List Change) (last : ℕ) (octets : List ℕ) → AreNewLines sum octets part last → HaveLines text Three head done sum → IsClosed text → HaveLines (text ++ octets) Three head (done ++ part) last × IsClosed (text ++ octets)
lines_behind text head done sum _ _ _ no_lines lines closed =
    (subst (λ (o : List ℕ). HaveLines o Three head (done ++ []) sum) (sym (append-nil text)) (subst (λ (cs : List Change). HaveLines text Three head cs sum) (sym (append-nil done)) lines), subst IsClosed (sym (append-nil text)) closed)
lines_behind text head done sum _ _ _ (one_more_line octets line changes change last next before new) lines closed =
    let b = lines_behind text head done sum changes last octets before lines closed in
    let octets_are : (text ++ octets) ++ one_line new.line ≡ text ++ (octets ++ line) = ap (λ (o : List ℕ). (text ++ octets) ++ o) (sym new.octets_are) ∙ append_assoc text octets line in (
      subst (λ (o : List ℕ). HaveLines o Three head (done ++ (changes ++ change ∷ [])) next) octets_are
          (subst (λ (cs : List Change). HaveLines ((text ++ octets) ++ one_line new.line) Three head cs next) (append_assoc done changes (change ∷ [])) (line_behind (text ++ octets) new.line Three head (done ++ changes) change last next b.0 b.1 new.is_line new.says)),
      subst IsClosed octets_are (closed_by (text ++ octets) new.line),
    )

-- a change more is to have a line
new_more : (beside : Option Written) (draft : Option Draft) (new : Option Beside) (change : Change) → HoldsNew beside draft new → HoldsNew beside (with_change change draft) (with_line_of change new)
new_more beside draft None change none = ap (with_change change) none
new_more beside draft (Some new) change part = record {
  text = part.text;
  header = part.header;
  done = part.done;
  beside_is = part.beside_is;
  draft_is = ap (with_change change) part.draft_is ∙ ap (λ (cs : List Change). Some (record { last = part.header.last; changes = cs })) (append_assoc part.done new.left (change ∷ []));
  lines = part.lines;
  closed = part.closed;
  enough = let e = part.enough in let a = length-append part.done new.left in let b = length-append part.done (new.left ++ change ∷ []) in let d = length-append new.left (change ∷ []) in omega (arith, e, a, b, d);
}

-- it begins
new_begun : (front : List ℕ) (header : Header) (changes : List Change) (last : ℕ) → IsNewFront front header (length changes) last
    → HasPart (Some (written_at front (length front))) (Some (record { last = header.last; changes = changes })) (record { leases = length changes; lines = length changes; left = changes; sum = last })
new_begun front header changes last is = record { text = front; header = header; done = []; beside_is = refl; draft_is = refl; lines = is.lines; closed = is.closed; enough = omega arith }

-- a part more is written
new_part : (beside : Option Written) (draft : Option Draft) (new : Beside) (octets : List ℕ) (part left : List Change) (last : ℕ) → new.left ≡ part ++ left → AreNewLines new.sum octets part last → HasPart beside draft new
    → HasPart (changed (λ (w : Written). all_synced (more octets w)) beside) draft (record { leases = new.leases; lines = new.lines; left = left; sum = last })
new_part beside draft new octets part left last split lines has =
    let l = lines_behind has.text (record { header = has.header; leases = new.leases }) has.done new.sum part last octets lines has.lines has.closed in
    let regroup : has.done ++ new.left ≡ (has.done ++ part) ++ left = ap (λ (cs : List Change). has.done ++ cs) split ∙ sym (append_assoc has.done part left) in
    record {
      text = has.text ++ octets;
      header = has.header;
      done = has.done ++ part;
      beside_is = ap (changed (λ (w : Written). all_synced (more octets w))) has.beside_is;
      draft_is = has.draft_is ∙ ap (λ (cs : List Change). Some (record { last = has.header.last; changes = cs })) regroup;
      lines = l.0;
      closed = l.1;
      enough = subst (λ (cs : List Change). new.leases ≤ length cs) regroup has.enough;
    }

-- and it is whole then
record IsWhole (beside : Option Written) (draft : Option Draft) (last : ℕ) : Type 0 where
  text : List ℕ
  header : Header
  changes : List Change
  beside_is : beside ≡ Some (written_at text (length text))
  draft_is : draft ≡ Some (record { last = header.last; changes = changes })
  file : IsFile text Three header changes last
  closed : IsClosed text

new_whole : (beside : Option Written) (draft : Option Draft) (old : Tail) (octets : List ℕ) (last : ℕ) → IsLastPart old octets last → HoldsNew beside draft old.beside → IsWhole (changed (λ (w : Written). all_synced (more octets w)) beside) draft last
new_whole beside draft old octets last is held =
    let has : HasPart beside draft is.new = subst (HoldsNew beside draft) is.there held in
    let all = new_part beside draft is.new octets is.new.left [] last (sym (append-nil is.new.left)) is.lines has in
    record {
      text = all.text;
      header = all.header;
      changes = all.done ++ [];
      beside_is = all.beside_is;
      draft_is = all.draft_is;
      file = record { leases = is.new.leases; lines = subst (λ (cs : List Change). HaveLines all.text Three (record { header = all.header; leases = is.new.leases }) cs last) (sym (append-nil all.done)) all.lines; enough = all.enough };
      closed = all.closed;
    }

-- ---- one call

-- a change more, written at the end
held_more : (folder : Folder) (h : Header) (kept : Kept) (tail : Tail) (next : ℕ) (octets : List ℕ) (c : Change) → IsNewLine octets tail.sum c next → Holds folder h kept tail
    → Holds (record { file = more octets folder.file; beside = folder.beside }) h (record { changes = kept.changes ++ c ∷ []; durable = kept.durable; draft = with_change c kept.draft }) (record { sum = next; beside = with_line_of c tail.beside })
held_more folder h kept tail next octets c new held = record {
  front = held.front;
  behind = held.behind ++ octets;
  durable = held.durable;
  file_is = ap (more octets) held.file_is ∙ ap (λ (o : List ℕ). written_at o (length held.front)) (append_assoc held.front held.behind octets);
  file = subst (λ (o : List ℕ). IsFile o Three h (kept.changes ++ c ∷ []) next) regroup (one_more_change (held.front ++ held.behind) new.line h kept.changes c tail.sum next held.file held.closed new.is_line new.says);
  closed = subst IsClosed regroup (closed_by (held.front ++ held.behind) new.line);
  durable_sum = held.durable_sum;
  front_file = held.front_file;
  as_many = held.as_many;
  new = new_more folder.beside kept.draft tail.beside c held.new;
} where
  regroup : (held.front ++ held.behind) ++ one_line new.line ≡ held.front ++ (held.behind ++ octets)
  regroup = append_assoc held.front held.behind (one_line new.line) ∙ ap (λ (o : List ℕ). held.front ++ (held.behind ++ o)) (sym new.octets_are)

-- after these calls of the disk
asked_so : (asked is : List DiskCall) (folder : Folder) (h : Header) (kept : Kept) (tail : Tail) → asked ≡ is → Holds (after_disk_calls is folder) h kept tail → Holds (after_disk_calls asked folder) h kept tail
asked_so asked is folder h kept tail same held = subst (λ (xs : List DiskCall). Holds (after_disk_calls xs folder) h kept tail) (sym same) held

-- a renewal is gone on with
held_on : (old new : Tail) (asked : List DiskCall) (folder : Folder) (h : Header) (kept : Kept) → GoesOn old asked new → Holds folder h kept old → Holds (after_disk_calls asked folder) h kept new
held_on old _ _ folder h kept (asks_nothing none) held = held
held_on old _ _ folder h kept (adds_a_part new octets part left last there split few lines) held =
    let has : HasPart folder.beside kept.draft new = subst (HoldsNew folder.beside kept.draft) there held.new in
    held_beside folder _ h kept old kept.draft (Some (record { leases = new.leases; lines = new.lines; left = left; sum = last })) held refl (new_part folder.beside kept.draft new octets part left last split lines has)

-- it ends
held_end : (old : Tail) (octets : List ℕ) (last : ℕ) (folder : Folder) (h : Header) (kept : Kept) → IsLastPart old octets last → Holds folder h kept old → (now : Header) × Holds (after_disk_calls (added_beside octets ∷ installed ∷ []) folder) now (put_in_place kept.draft kept) (tail_at last)
held_end old octets last folder h kept is held =
    let all = new_whole folder.beside kept.draft old octets last is held.new in
    let here : Folder = record { file = folder.file; beside = changed (λ (w : Written). all_synced (more octets w)) folder.beside } in
    let put : in_place here.file here.beside ≡ record { file = written_at all.text (length all.text); beside = None } = ap (in_place here.file) all.beside_is in (
      all.header,
      subst (λ (f : Folder). Holds f all.header (put_in_place kept.draft kept) (tail_at last)) (sym put)
          (subst (λ (d : Option Draft). Holds (record { file = written_at all.text (length all.text); beside = None }) all.header (put_in_place d kept) (tail_at last)) (sym all.draft_is)
          (held_whole (record { file = written_at all.text (length all.text); beside = None }) all.text all.header all.changes None (tail_at last) refl all.file all.closed refl)),
    )

-- after calls that went well
held_after : (call : StoreCall) (old new : Tail) (asked : List DiskCall) (folder : Folder) (h : Header) (kept : Kept) → Asks call old asked new → has_failed call ≡ false → Holds folder h kept old → (now : Header) × Holds (after_disk_calls asked folder) now (after_call call kept) new
held_after (appended c) old new asked folder h kept asks well held =
    (h, asked_so asked (added asks.0 ∷ []) folder h (after_call (appended c) kept) new asks.3 (subst (Holds (after_disk_calls (added asks.0 ∷ []) folder) h (after_call (appended c) kept)) (sym asks.4) (held_more folder h kept old asks.1 asks.0 c asks.2 held)))
held_after synced old new asked folder h kept e well held =
    let is : all_synced folder.file ≡ written_at (held.front ++ held.behind) (length (held.front ++ held.behind)) = ap all_synced held.file_is in (
      h,
      asked_so asked (flushed ∷ []) folder h (after_call synced kept) new e.0 (subst (Holds (after_disk_calls (flushed ∷ []) folder) h (after_call synced kept)) (sym e.1)
          (held_whole (after_disk_calls (flushed ∷ []) folder) (held.front ++ held.behind) h kept.changes kept.draft old is held.file held.closed held.new)),
    )
held_after (renewal_began header changes) old new asked folder h kept asks well held = (
  h,
  asked_so asked (created asks.0 ∷ []) folder h (after_call (renewal_began header changes) kept) new asks.3 (subst (Holds (after_disk_calls (created asks.0 ∷ []) folder) h (after_call (renewal_began header changes) kept)) (sym asks.4)
      (held_beside folder _ h kept old (Some (record { last = header.last; changes = changes })) (Some (record { leases = length changes; lines = length changes; left = changes; sum = asks.1 })) held refl (new_begun asks.0 header changes asks.1 asks.2))),
)
held_after renewal_went_on old new asked folder h kept asks well held = (h, held_on old new asked folder h kept asks held)
held_after renewed old new asked folder h kept asks well held =
    let all = held_end old asks.0 asks.1 folder h kept asks.2 held in
    (all.0, asked_so asked (added_beside asks.0 ∷ installed ∷ []) folder all.0 (after_call renewed kept) new asks.3 (subst (Holds (after_disk_calls (added_beside asks.0 ∷ installed ∷ []) folder) all.0 (after_call renewed kept)) (sym asks.4) all.1))
held_after (append_failed c) old new asked folder h kept asks well held = absurd cc
held_after sync_failed old new asked folder h kept asks well held = absurd cc
held_after renewal_failed old new asked folder h kept asks well held = absurd cc

-- ---- calls in turn

asked_append : (a b : List DiskCall) (folder : Folder) → after_disk_calls (a ++ b) folder ≡ after_disk_calls b (after_disk_calls a folder)
asked_append [] b folder = refl
asked_append (x ∷ a) b folder = asked_append a b (after_disk_call x folder)

held_in_turn : (calls : List StoreCall) (old last : Tail) (asked : List DiskCall) (folder : Folder) (h : Header) (kept : Kept) → AskInTurn calls old asked last → WentWell calls → Holds folder h kept old → (now : Header) × Holds (after_disk_calls asked folder) now (after_calls calls kept) last
held_in_turn _ _ _ _ folder h kept (nothing_asked at) well held = (h, held)
held_in_turn _ _ _ _ folder h kept (one_more_asks call calls old mid last asked others asks in_turn) well held =
    let one = held_after call old mid asked folder h kept asks well.0 held in
    let all = held_in_turn calls mid last others (after_disk_calls asked folder) one.0 (after_call call kept) in_turn well.1 one.1 in
    (all.0, subst (λ (f : Folder). Holds f all.0 (after_calls calls (after_call call kept)) last) (sym (asked_append asked others folder)) all.1)

held_at_first : (text : List ℕ) (h : Header) (rows : Rows) (sum : ℕ) → IsNewFile text h rows sum → Holds (folder_of text) h (kept_rows h.last rows) (tail_at sum)
held_at_first text h rows sum new = held_whole (folder_of text) text h (begun_all h.last rows) None (tail_at sum) refl new.file new.closed refl

-- ---- what ends a crash

abbrev last_of : DiskCall → List DiskCall → DiskCall
last_of x [] = x
last_of x (y ∷ ys) = last_of y ys

last_behind : (x : DiskCall) (a : List DiskCall) (y : DiskCall) (ys : List DiskCall) → last_of x (a ++ y ∷ ys) ≡ last_of y ys
last_behind x [] y ys = refl
last_behind x (z ∷ a) y ys = last_behind z a y ys

-- the last call of all, where there is none behind these
same_last : (a b : List DiskCall) (z : DiskCall) (ys : List DiskCall) → a ++ ys ≡ b ++ z ∷ [] → last_of (last_of flushed a) ys ≡ z
same_last a b z [] e = ap (last_of flushed) (sym (append-nil a) ∙ e) ∙ last_behind flushed b z []
same_last a b z (y ∷ ys) e = sym (last_behind flushed a y ys) ∙ ap (last_of flushed) e ∙ last_behind flushed b z []

-- the last of what calls ask that went well is no install that failed
well_asked : (call : StoreCall) (old new : Tail) (asked : List DiskCall) (x : DiskCall) → Asks call old asked new → has_failed call ≡ false → x ≢ install_failed → last_of x asked ≢ install_failed
well_asked (appended c) old new asked x asks well not is = let e : last_of x (added asks.0 ∷ []) ≡ install_failed = subst (λ (xs : List DiskCall). last_of x xs ≡ install_failed) asks.3 is in absurd cc
well_asked synced old new asked x asks well not is = let e : last_of x (flushed ∷ []) ≡ install_failed = subst (λ (xs : List DiskCall). last_of x xs ≡ install_failed) asks.0 is in absurd cc
well_asked (renewal_began header changes) old new asked x asks well not is = let e : last_of x (created asks.0 ∷ []) ≡ install_failed = subst (λ (xs : List DiskCall). last_of x xs ≡ install_failed) asks.3 is in absurd cc
well_asked renewal_went_on old _ _ x (asks_nothing none) well not is = not is
well_asked renewal_went_on old _ _ x (adds_a_part new octets part left last there split few lines) well not is = absurd cc
well_asked renewed old new asked x asks well not is = let e : last_of x (added_beside asks.0 ∷ installed ∷ []) ≡ install_failed = subst (λ (xs : List DiskCall). last_of x xs ≡ install_failed) asks.3 is in absurd cc
well_asked (append_failed c) old new asked x asks well not is = absurd cc
well_asked sync_failed old new asked x asks well not is = absurd cc
well_asked renewal_failed old new asked x asks well not is = absurd cc

last_append : (x : DiskCall) (a b : List DiskCall) → last_of x (a ++ b) ≡ last_of (last_of x a) b
last_append x [] b = refl
last_append x (y ∷ a) b = last_append y a b

all_well : (calls : List StoreCall) (old new : Tail) (asked : List DiskCall) (x : DiskCall) → AskInTurn calls old asked new → WentWell calls → x ≢ install_failed → last_of x asked ≢ install_failed
all_well _ _ _ _ x (nothing_asked at) well not = not
all_well _ _ _ _ x (one_more_asks call calls old mid new asked others asks in_turn) well not =
    subst (λ (y : DiskCall). y ≢ install_failed) (sym (last_append x asked others)) (all_well calls mid new others (last_of x asked) in_turn well.1 (well_asked call old mid asked x asks well.0 not))

no_install : flushed ≢ install_failed
no_install e = absurd cc

-- what a crash leaves between two calls
pub left_between : (text : List ℕ) (h : Header) (rows : Rows) (sum : ℕ) (last : Tail) (calls : List StoreCall) (asked : List DiskCall) (left : List ℕ) → IsNewFile text h rows sum → AskInTurn calls (tail_at sum) asked last → WentWell calls → CrashLeaves (folder_of text) asked left
    → LeavesOf left (MayLeaveAfter (kept_rows h.last rows) calls)
left_between text h rows sum last calls asked left new in_turn well crash =
    let held = held_in_turn calls (tail_at sum) last asked (folder_of text) h (kept_rows h.last rows) in_turn well (held_at_first text h rows sum new) in
    let found = by_kind held.1 crash in
    (found.0, found.1, found.2, found.3, first_changes found.4)
  where
    by_kind : {now : Header} → Holds (after_disk_calls asked (folder_of text)) now (after_calls calls (kept_rows h.last rows)) last → CrashLeaves (folder_of text) asked left
        → LeavesOf left (MayLeave (after_calls calls (kept_rows h.last rows)).changes (after_calls calls (kept_rows h.last rows)).durable)
    by_kind {now} held (old_file cut) = cut_held (after_disk_calls asked (folder_of text)) now (after_calls calls (kept_rows h.last rows)) last left held cut
    by_kind held (new_file before new e some cut) = absurd (all_well calls (tail_at sum) last asked flushed in_turn well no_install (ap (last_of flushed) e ∙ last_behind flushed before install_failed []))

-- ---- within a call

-- the file is cut; or the new one that was last to be installed is
abbrev Ends : Folder → List DiskCall → (left : List ℕ) → Type 0
Ends folder tail left =
    IsCutOf (after_disk_calls tail folder).file left
    ⊎ ((new : Written) × (x : DiskCall) × (x ≢ install_failed) × (last_of x tail ≡ install_failed) × ((after_disk_calls tail folder).beside ≡ Some new) × IsCutOf new left)

ends_in : (folder : Folder) (asked tail : List DiskCall) (left : List ℕ) → last_of flushed asked ≢ install_failed → CrashLeaves folder (asked ++ tail) left → Ends (after_disk_calls asked folder) tail left
ends_in folder asked tail left not (old_file cut) = inl (subst (λ (f : Folder). IsCutOf f.file left) (asked_append asked tail folder) cut)
ends_in folder asked tail left not (new_file before new e some cut) = inr (
  new,
  last_of flushed asked,
  not,
  same_last asked before install_failed tail e,
  ap (λ (f : Folder). f.beside) (sym (asked_append asked tail folder)) ∙ some,
  cut,
)

-- what a crash within the call leaves: the first changes, or all of the new file
abbrev EndsIn : Kept → StoreCall → (left : List ℕ) → Type 0
EndsIn kept last left =
    LeavesOf left (MayLeave (after_call last kept).changes (after_call last kept).durable)
    ⊎ ((now : Header) × (draft : Draft) × (end : ℕ) × (last ≡ renewal_failed) × (kept.draft ≡ Some draft) × IsFile left Three now draft.changes end)

-- a change that wasn't written is no loss
one_more_may : (changes : List Change) (durable : ℕ) (c : Change) (left : List Change) → MayLeave changes durable left → MayLeave (changes ++ c ∷ []) durable left
one_more_may changes durable c left may = record {
  count = may.count;
  at_least = may.at_least;
  at_most = omega (arith, may.at_most, length-append changes (c ∷ []));
  left_is = may.left_is ∙ sym (take-append-le may.count changes (c ∷ []) may.at_most);
}

-- the call went well
within_well : (last : StoreCall) (old new : Tail) (tail : List DiskCall) (folder : Folder) (h : Header) (kept : Kept) (left : List ℕ) → has_failed last ≡ false → Asks last old tail new → Holds folder h kept old → Ends folder tail left → EndsIn kept last left
within_well last old new tail folder h kept left well asks held (inl cut) = let after = held_after last old new tail folder h kept asks well held in inl (cut_held (after_disk_calls tail folder) after.0 (after_call last kept) new left after.1 cut)
within_well last old new tail folder h kept left well asks held (inr w) = absurd (well_asked last old new tail w.1 asks well w.2 w.3)

-- it asked nothing
within_nothing : (tail : List DiskCall) (old : Tail) (folder : Folder) (h : Header) (kept : Kept) (left : List ℕ) → tail ≡ [] → Holds folder h kept old → Ends folder tail left → LeavesOf left (MayLeave kept.changes kept.durable)
within_nothing tail old folder h kept left none held (inl cut) = cut_held folder h kept old left held (subst (λ (xs : List DiskCall). IsCutOf (after_disk_calls xs folder).file left) none cut)
within_nothing tail old folder h kept left none held (inr w) = absurd (w.2 (subst (λ (xs : List DiskCall). last_of w.1 xs ≡ install_failed) none w.3))

-- a renewal failed
stopped : (old : Tail) (tail : List DiskCall) (folder : Folder) (h : Header) (kept : Kept) (left : List ℕ) → StopsRenewing old tail → Holds folder h kept old → Ends folder tail left → EndsIn kept renewal_failed left
stopped old _ folder h kept left before_it held ends = inl (within_nothing [] old folder h kept left refl held ends)
stopped old _ folder h kept left (at_front front header leases last is) held (inl cut) = inl (cut_held folder h kept old left held cut)
stopped old _ folder h kept left (at_front front header leases last is) held (inr w) = let other : create_failed front ≡ install_failed = w.3 in absurd cc
stopped old _ folder h kept left (at_part new octets part rest last there split lines) held (inl cut) = inl (cut_held folder h kept old left held cut)
stopped old _ folder h kept left (at_part new octets part rest last there split lines) held (inr w) = let other : add_beside_failed octets ≡ install_failed = w.3 in absurd cc
stopped old _ folder h kept left (at_end octets last is) held (inl cut) = inl (cut_held folder h kept old left held cut)
stopped old _ folder h kept left (at_end octets last is) held (inr w) =
    let all = new_whole folder.beside kept.draft old octets last is held.new in
    let some : Some (written_at all.text (length all.text)) ≡ Some w.0 = sym all.beside_is ∙ w.4 in
    let same : w.0 ≡ written_at all.text (length all.text) = cc in
    let cut : IsCutOf (written_at all.text (length all.text)) left = subst (λ (x : Written). IsCutOf x left) same w.5 in
    inr (all.header, record { last = all.header.last; changes = all.changes }, last, refl, all.draft_is, subst (λ (o : List ℕ). IsFile o Three all.header all.changes last) (sym (cut.left_is ∙ take_all cut.size all.text cut.at_least)) all.file)

-- a change wasn't written, or a part of its line was
not_written : (c : Change) (old new : Tail) (tail : List DiskCall) (folder : Folder) (h : Header) (kept : Kept) (left : List ℕ) → Asks (append_failed c) old tail new → Holds folder h kept old → Ends folder tail left → EndsIn kept (append_failed c) left
not_written c old new tail folder h kept left (inl e) held ends =
    let found = within_nothing tail old folder h kept left e held ends in
    inl (found.0, found.1, found.2, found.3, one_more_may kept.changes kept.durable c found.1 found.4)
not_written c old new tail folder h kept left (inr asks) held (inl cut) =
    let after = held_more folder h kept old asks.1 asks.0 c asks.2 held in
    inl (cut_held (record { file = more asks.0 folder.file; beside = folder.beside }) h (after_call (append_failed c) kept) (record { sum = asks.1; beside = with_line_of c old.beside }) left after (subst (λ (xs : List DiskCall). IsCutOf (after_disk_calls xs folder).file left) asks.3 cut))
not_written c old new tail folder h kept left (inr asks) held (inr w) = let other : last_of w.1 (add_failed asks.0 ∷ []) ≡ install_failed = subst (λ (xs : List DiskCall). last_of w.1 xs ≡ install_failed) asks.3 w.3 in absurd cc

not_synced : (old new : Tail) (tail : List DiskCall) (folder : Folder) (h : Header) (kept : Kept) (left : List ℕ) → Asks sync_failed old tail new → Holds folder h kept old → Ends folder tail left → EndsIn kept sync_failed left
not_synced old new tail folder h kept left (inl e) held ends = inl (within_nothing tail old folder h kept left e held ends)
not_synced old new tail folder h kept left (inr e) held (inl cut) = inl (cut_held folder h kept old left held (subst (λ (xs : List DiskCall). IsCutOf (after_disk_calls xs folder).file left) e cut))
not_synced old new tail folder h kept left (inr e) held (inr w) = let other : last_of w.1 (flush_failed ∷ []) ≡ install_failed = subst (λ (xs : List DiskCall). last_of w.1 xs ≡ install_failed) e w.3 in absurd cc

within : (last : StoreCall) (old new : Tail) (tail : List DiskCall) (folder : Folder) (h : Header) (kept : Kept) (left : List ℕ) → Asks last old tail new → Holds folder h kept old → Ends folder tail left → EndsIn kept last left
within (appended c) old new tail folder h kept left asks held ends = within_well (appended c) old new tail folder h kept left refl asks held ends
within (append_failed c) old new tail folder h kept left asks held ends = not_written c old new tail folder h kept left asks held ends
within synced old new tail folder h kept left asks held ends = within_well synced old new tail folder h kept left refl asks held ends
within sync_failed old new tail folder h kept left asks held ends = not_synced old new tail folder h kept left asks held ends
within (renewal_began header changes) old new tail folder h kept left asks held ends = within_well (renewal_began header changes) old new tail folder h kept left refl asks held ends
within renewal_went_on old new tail folder h kept left asks held ends = within_well renewal_went_on old new tail folder h kept left refl asks held ends
within renewed old new tail folder h kept left asks held ends = within_well renewed old new tail folder h kept left refl asks held ends
within renewal_failed old new tail folder h kept left asks held ends = stopped old tail folder h kept left asks held ends

calls_then : (calls : List StoreCall) (last : StoreCall) (kept : Kept) → after_calls (calls ++ last ∷ []) kept ≡ after_call last (after_calls calls kept)
calls_then [] last kept = refl
calls_then (call ∷ calls) last kept = calls_then calls last (after_call call kept)

leaves_in : (calls : List StoreCall) (last : StoreCall) (kept : Kept) (left : List ℕ) → EndsIn (after_calls calls kept) last left → LeavesOf left (MayLeaveAfter kept (calls ++ last ∷ []))
leaves_in calls last kept left (inl found) = (found.0, found.1, found.2, found.3, first_changes (subst (λ (k : Kept). MayLeave k.changes k.durable found.1) (sym (calls_then calls last kept)) found.4))
leaves_in calls last kept left (inr w) = (w.0, w.1.changes, w.2, w.5, as_drafted calls w.1 (ap (λ (x : StoreCall). calls ++ x ∷ []) w.3) w.4 refl)

pub left_within : (text : List ℕ) (h : Header) (rows : Rows) (sum : ℕ) (mid next : Tail) (calls : List StoreCall) (last : StoreCall) (asked tail : List DiskCall) (left : List ℕ) → IsNewFile text h rows sum → AskInTurn calls (tail_at sum) asked mid → WentWell calls → Asks last mid tail next
    → CrashLeaves (folder_of text) (asked ++ tail) left → LeavesOf left (MayLeaveAfter (kept_rows h.last rows) (calls ++ last ∷ []))
left_within text h rows sum mid next calls last asked tail left new in_turn well asks crash =
    let held = held_in_turn calls (tail_at sum) mid asked (folder_of text) h (kept_rows h.last rows) in_turn well (held_at_first text h rows sum new) in
    leaves_in calls last (kept_rows h.last rows) left (within last mid next tail (after_disk_calls asked (folder_of text)) held.0 (after_calls calls (kept_rows h.last rows)) left asks held.1
    (ends_in (folder_of text) asked tail left (all_well calls (tail_at sum) mid asked flushed in_turn well no_install) crash))

-- ---- the calls of a store over a disk

pub asked_in_turn : {D : Type 0} (does : D → DiskCall → D → Type 0) (old new : DiskStore D) (calls : List StoreCall) → Chain (StoreDoes does) old calls new
    → (asked : List DiskCall) × Chain does (disk_of old) asked (disk_of new) × AskInTurn calls (tail_of old) asked (tail_of new)
asked_in_turn does old new [] e = let none : AskInTurn [] (tail_of old) [] (tail_of old) = nothing_asked (tail_of old) in ([], ap disk_of e, subst (λ (s : Tail). AskInTurn [] (tail_of old) [] s) (sym (ap tail_of e)) none)
asked_in_turn does old new (call ∷ calls) chain =
    let others = asked_in_turn does chain.0 new calls chain.2 in
    (chain.1.asked ++ others.0, chain-append does (disk_of old) (disk_of chain.0) (disk_of new) chain.1.asked others.0 chain.1.chain others.1, one_more_asks call calls (tail_of old) (tail_of chain.0) (tail_of new) chain.1.asked others.0 chain.1.asks others.2)
