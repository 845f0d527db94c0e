-- The header of the file that a crash leaves, after the calls of a store over a disk.
use Rattle.std.proofs.Common.{◌≡◌, ◌∙◌, ℕ, ◌-◌, ◌≤◌, false, Option, Some, None, List, [], ◌∷◌, ◌++◌, length, ap, sym, subst, refl, append_assoc, append-nil, arith}
use Rattle.std.specs.Prelude.{◌+◌, take}
use Rattle.std.specs.Option.{option_map}
use Rattle.std.proofs.Math.Seq.{take-append-add}
use Rattle.std.proofs.lemmas.List.{length-append}
use Rattle.nbt_lease.specs.Lease.{Rows}
use Rattle.nbt_text.specs.Number.{SpellsNumber}
use Rattle.nbt_store.specs.Boot.{SpellsBoot}
use Rattle.nbt_store.specs.Calls.{StoreCall, appended, append_failed, synced, sync_failed, renewal_began, renewal_went_on, renewed, renewal_failed, has_failed, WentWell, Draft, Kept, kept_rows, with_change, put_in_place, after_call, after_calls, MayLeaveAfter, first_changes, as_drafted}
use Rattle.nbt_store.specs.Changes.{begun_all}
use Rattle.nbt_store.specs.Crashes.{Folder, Written, all_synced, changed, more, after_disk_call, after_disk_calls, folder_of, in_place, IsCutOf}
use Rattle.nbt_store.specs.DiskCalls.{DiskCall, created, added_beside, installed, added, flushed}
use Rattle.nbt_store.specs.DiskStores.{Asks, AskInTurn, nothing_asked, one_more_asks, Beside, GoesOn, asks_nothing, adds_a_part, IsLastPart, IsNewFile, Tail, tail_at, with_line_of}
use Rattle.nbt_store.specs.Forms.{version}
use Rattle.nbt_store.specs.Lines.{HaveLines, IsClosed, IsFile, IsHead, SpellsHead, whole_lines}
use Rattle.nbt_store.specs.Words.{NoMore, Then}
use Rattle.nbt_store.specs.declared.change.Change.{Change}
use Rattle.nbt_store.specs.declared.form.Form.TheVariants.{Three}
use Rattle.nbt_store.specs.declared.header.Header.{Header}
use Rattle.nbt_text.specs.Lines.{words as words_of}
use Rattle.nbt_store.proofs.Saying.{SpellNine, head_from}
use Rattle.nbt_store.proofs.Seals.{same_body}
use Rattle.nbt_store.proofs.WholeLines.{behind_closed}
use Rattle.nbt_serve.specs.Runs.{last_after, last_by, last_drafted, last_left}
use Rattle.nbt_net.specs.Headers.{Headed, headed, header_beside, headed_by, headed_after, header_left}

-- ---- a line has one header

-- what is spelled is one value
abbrev IsOne : {W A : Type 0} → (W → A → Type 0) → Type 0
IsOne {W = W} {A = A} Spell = (word : W) (x y : A) → Spell word x → Spell word y → x ≡ y

number_one : IsOne SpellsNumber
number_one word x y s t = s.1 ∙ sym t.1

boot_one : IsOne SpellsBoot
boot_one word x y s t = s.0 ∙ sym t.0

no_more_one : IsOne NoMore
no_more_one words x y s t = refl

pair_one : {A B : Type 0} (a c : A) (b d : B) → a ≡ c → b ≡ d → ◌≡◌ {A = A × B} (a, b) (c, d)
pair_one a c b d front behind = rw (front, behind) refl

then_one : {A B : Type 0} (One : List ℕ → A → Type 0) (Others : List (List ℕ) → B → Type 0) → IsOne One → IsOne Others → IsOne (Then One Others)
then_one One Others one others words x y s t =
    let same = sym s.words_are ∙ t.words_are in
    let word : s.word ≡ t.word = cc in
    let rest : s.rest ≡ t.rest = cc in
    let front = one t.word x.0 y.0 (subst (λ w. One w x.0) word s.one) t.one in
    let behind = others t.rest x.1 y.1 (subst (λ ws. Others ws x.1) rest s.others) t.others in
    pair_one x.0 y.0 x.1 y.1 front behind

number_then : {B : Type 0} (Others : List (List ℕ) → B → Type 0) → IsOne Others → IsOne (Then SpellsNumber Others)
number_then Others others = then_one SpellsNumber Others number_one others

nine_one : IsOne SpellNine
nine_one = number_then _ (number_then _ (number_then _ (then_one _ _ boot_one (number_then _ (number_then _ (number_then _ (number_then _ (number_then _ no_more_one))))))))

head_one : (line : List ℕ) (head other : _) (sum next : ℕ) → IsHead line head sum → IsHead line other next → head ≡ other
head_one line head other sum next s t =
    let body : s.body ≡ t.body = same_body 0 line s.body t.body s.line_is t.line_is in
    let mine : SpellsHead (words_of t.body) head = subst (λ (b : List ℕ). SpellsHead (words_of b) head) body s.words_say in
    mine.head_is ∙ ap head_from (nine_one (words_of t.body) mine.values t.words_say.values mine.spelled t.words_say.spelled) ∙ sym t.words_say.head_is

-- ---- a file whose first lines, all of them durable, have this header

pub record HasHead (written : Written) (h : Header) : Type 0 where
  pub front : List ℕ
  pub rest : List ℕ
  pub leases : ℕ
  pub changes : List Change
  pub last : ℕ
  pub octets_are : written.octets ≡ front ++ rest
  pub lines : HaveLines front Three (record { header = h; leases = leases }) changes last
  pub closed : IsClosed front
  pub durable : length front ≤ written.synced

-- so has what a crash leaves of it
pub head_of_cut : (written : Written) (h now : Header) (left : List ℕ) (changes : List Change) (end : ℕ) → HasHead written h → IsCutOf written left → IsFile left Three now changes end → now ≡ h
head_of_cut written h now left changes end has cut file =
    let low = has.durable in
    let high = cut.at_least in
    let behind : List ℕ = take (cut.size - length has.front) has.rest in
    let whole : cut.size ≡ length has.front + (cut.size - length has.front) = omega (arith, low, high) in
    let left_is : left ≡ has.front ++ behind = cut.left_is ∙ ap (take cut.size) has.octets_are ∙ ap (λ (n : ℕ). take n (has.front ++ has.rest)) whole ∙ take-append-add has.front has.rest (cut.size - length has.front) in
    let lines : whole_lines left ≡ (version Three ∷ has.lines.line ∷ has.lines.records) ++ whole_lines behind = ap whole_lines left_is ∙ behind_closed has.front behind has.closed ∙ ap (λ (ls : List (List ℕ)). ls ++ whole_lines behind) has.lines.lines_are in
    let same : version Three ∷ file.lines.line ∷ file.lines.records ≡ version Three ∷ has.lines.line ∷ (has.lines.records ++ whole_lines behind) = sym file.lines.lines_are ∙ lines in
    let line : file.lines.line ≡ has.lines.line = cc in
    ap (λ (x : _). x.header) (head_one has.lines.line (record { header = now; leases = file.leases }) (record { header = h; leases = has.leases }) file.lines.sum has.lines.sum
    (subst (λ (l : List ℕ). IsHead l (record { header = now; leases = file.leases }) file.lines.sum) line file.lines.head_is) has.lines.head_is)

pub head_more : (octets : List ℕ) (written : Written) (h : Header) → HasHead written h → HasHead (more octets written) h
head_more octets written h has = record {
  front = has.front;
  rest = has.rest ++ octets;
  leases = has.leases;
  changes = has.changes;
  last = has.last;
  octets_are = ap (λ (o : List ℕ). o ++ octets) has.octets_are ∙ append_assoc has.front has.rest octets;
  lines = has.lines;
  closed = has.closed;
  durable = has.durable;
}

head_synced : (written : Written) (h : Header) → HasHead written h → HasHead (all_synced written) h
head_synced written h has = record {
  front = has.front;
  rest = has.rest;
  leases = has.leases;
  changes = has.changes;
  last = has.last;
  octets_are = has.octets_are;
  lines = has.lines;
  closed = has.closed;
  durable = omega (arith, ap length has.octets_are, length-append has.front has.rest);
}

head_front : (front : List ℕ) (h : Header) (leases : ℕ) (changes : List Change) (last : ℕ) → HaveLines front Three (record { header = h; leases = leases }) changes last → IsClosed front → HasHead (record { octets = front; synced = length front }) h
head_front front h leases changes last lines closed = record {
  front = front;
  rest = [];
  leases = leases;
  changes = changes;
  last = last;
  octets_are = sym (append-nil front);
  lines = lines;
  closed = closed;
  durable = omega arith;
}

-- ---- the headers of a folder

-- whatever is there beside the file, where no new file is
abbrev pub HeadsNew : Option Written → Option Header → Option Beside → Type 0
HeadsNew written header None = header ≡ None
HeadsNew written header (Some new) = (w : Written) × (h : Header) × (written ≡ Some w) × (header ≡ Some h) × HasHead w h

pub record Heads (folder : Folder) (now : Headed) (tail : Tail) : Type 0 where
  pub file : HasHead folder.file now.file
  pub new : HeadsNew folder.beside now.beside tail.beside

heads_so : (asked is : List DiskCall) (new at : Tail) (folder : Folder) (now : Headed) → asked ≡ is → new ≡ at → Heads (after_disk_calls is folder) now at → Heads (after_disk_calls asked folder) now new
heads_so asked is new at folder now same ends heads =
    subst (λ (t : Tail). Heads (after_disk_calls asked folder) now t) (sym ends) (subst (λ (xs : List DiskCall). Heads (after_disk_calls xs folder) now at) (sym same) heads)

new_more : (written : Option Written) (header : Option Header) (beside : Option Beside) (change : Change) → HeadsNew written header beside → HeadsNew written header (with_line_of change beside)
new_more written header None change none = none
new_more written header (Some new) change has = has

new_on : (octets : List ℕ) (written : Option Written) (header : Option Header) (old : Beside) (new : Beside) → HeadsNew written header (Some old) → HeadsNew (changed (λ (w : Written). all_synced (more octets w)) written) header (Some new)
new_on octets written header old new has =
    (all_synced (more octets has.0), has.1, ap (changed (λ (w : Written). all_synced (more octets w))) has.2, has.3, head_synced (more octets has.0) has.1 (head_more octets has.0 has.1 has.4))

heads_on : (old new : Tail) (asked : List DiskCall) (folder : Folder) (now : Headed) → GoesOn old asked new → Heads folder now old → Heads (after_disk_calls asked folder) now new
heads_on old _ _ folder now (asks_nothing none) heads = heads
heads_on old _ _ folder now (adds_a_part new octets part left last there split few lines) heads =
    record { file = heads.file; new = new_on octets folder.beside now.beside new (record { leases = new.leases; lines = new.lines; left = left; sum = last }) (subst (HeadsNew folder.beside now.beside) there heads.new) }

-- the new file takes the file's place
heads_end : (old : Tail) (octets : List ℕ) (last : ℕ) (folder : Folder) (now : Headed) → IsLastPart old octets last → Heads folder now old → Heads (after_disk_calls (added_beside octets ∷ installed ∷ []) folder) (headed_by renewed now) (tail_at last)
heads_end old octets last folder now is heads =
    let has : HeadsNew folder.beside now.beside (Some is.new) = subst (HeadsNew folder.beside now.beside) is.there heads.new in
    let after : Written = all_synced (more octets has.0) in
    let put : in_place folder.file (changed (λ (w : Written). all_synced (more octets w)) folder.beside) ≡ record { file = after; beside = None } = ap (λ (b : Option Written). in_place folder.file (changed (λ (w : Written). all_synced (more octets w)) b)) has.2 in
    let of_new : headed (header_beside now.beside now.file) ≡ headed has.1 = ap (λ (b : Option Header). headed (header_beside b now.file)) has.3 in
    subst (λ (f : Folder). Heads f (headed_by renewed now) (tail_at last)) (sym put)
    (subst (λ (n : Headed). Heads (record { file = after; beside = None }) n (tail_at last)) (sym of_new) (record { file = head_synced (more octets has.0) has.1 (head_more octets has.0 has.1 has.4); new = refl }))

heads_after : (call : StoreCall) (old new : Tail) (asked : List DiskCall) (folder : Folder) (now : Headed) → Asks call old asked new → has_failed call ≡ false → Heads folder now old → Heads (after_disk_calls asked folder) (headed_by call now) new
heads_after (appended c) old new asked folder now asks well heads =
    heads_so asked (added asks.0 ∷ []) new (record { sum = asks.1; beside = with_line_of c old.beside }) folder now asks.3 asks.4 (record { file = head_more asks.0 folder.file now.file heads.file; new = new_more folder.beside now.beside old.beside c heads.new })
heads_after synced old new asked folder now asks well heads = heads_so asked (flushed ∷ []) new old folder now asks.0 asks.1 (record { file = head_synced folder.file now.file heads.file; new = heads.new })
heads_after (renewal_began header changes) old new asked folder now asks well heads =
    heads_so asked (created asks.0 ∷ []) new (record { sum = old.sum; beside = Some (record { leases = length changes; lines = length changes; left = changes; sum = asks.1 }) }) folder (headed_by (renewal_began header changes) now) asks.3 asks.4
    (record { file = heads.file; new = (record { octets = asks.0; synced = length asks.0 }, header, refl, refl, head_front asks.0 header (length changes) [] asks.1 asks.2.lines asks.2.closed) })
heads_after renewal_went_on old new asked folder now asks well heads = heads_on old new asked folder now asks heads
heads_after renewed old new asked folder now asks well heads = heads_so asked (added_beside asks.0 ∷ installed ∷ []) new (tail_at asks.1) folder (headed_by renewed now) asks.3 asks.4 (heads_end old asks.0 asks.1 folder now asks.2 heads)
heads_after (append_failed c) old new asked folder now asks well heads = absurd cc
heads_after sync_failed old new asked folder now asks well heads = absurd cc
heads_after renewal_failed old new asked folder now asks well heads = absurd cc

pub asked_append : (a b : List DiskCall) (folder : Folder) → after_disk_calls (a ++ b) folder ≡ after_disk_calls b (after_disk_calls a folder)
asked_append [] b folder = refl
asked_append (x ∷ a) b folder = asked_append a b (after_disk_call x folder)

pub heads_in_turn : (calls : List StoreCall) (old last : Tail) (asked : List DiskCall) (folder : Folder) (now : Headed) → AskInTurn calls old asked last → WentWell calls → Heads folder now old → Heads (after_disk_calls asked folder) (headed_after calls now) last
heads_in_turn _ _ _ _ folder now (nothing_asked at) well heads = heads
heads_in_turn _ _ _ _ folder now (one_more_asks call calls old mid last asked others asks in_turn) well heads =
    let one = heads_after call old mid asked folder now asks well.0 heads in
    subst (λ (f : Folder). Heads f (headed_after calls (headed_by call now)) last) (sym (asked_append asked others folder)) (heads_in_turn calls mid last others (after_disk_calls asked folder) (headed_by call now) in_turn well.1 one)

pub heads_at_first : (text : List ℕ) (h : Header) (rows : Rows) (sum : ℕ) → IsNewFile text h rows sum → Heads (folder_of text) (headed h) (tail_at sum)
heads_at_first text h rows sum new = record { file = head_front text h (length rows) (begun_all h.last rows) sum new.counted new.closed; new = refl }

-- ---- in step with the last times

pub record InStep (kept : Kept) (last : ℕ) (now : Headed) : Type 0 where
  pub file : now.file.last ≡ last
  pub new : option_map (λ d. d.last) kept.draft ≡ option_map (λ h. h.last) now.beside

same_last : (c : Change) (draft : Option Draft) → option_map (λ d. d.last) (with_change c draft) ≡ option_map (λ d. d.last) draft
same_last c None = refl
same_last c (Some draft) = refl

in_step_placed : (changes : List Change) (durable last : ℕ) (draft : Option Draft) (beside : Option Header) (file : Header) → file.last ≡ last → option_map (λ d. d.last) draft ≡ option_map (λ h. h.last) beside
    → InStep (put_in_place draft (record { changes = changes; durable = durable; draft = draft })) (last_drafted draft last) (headed (header_beside beside file))
in_step_placed changes durable last None None file is same = record { file = is; new = refl }
in_step_placed changes durable last (Some draft) (Some header) file is same = record { file = (let both : Some draft.last ≡ Some header.last = same in cc); new = refl }
in_step_placed changes durable last None (Some header) file is same = absurd cc
in_step_placed changes durable last (Some draft) None file is same = absurd cc

in_step_by : (call : StoreCall) (kept : Kept) (last : ℕ) (now : Headed) → InStep kept last now → InStep (after_call call kept) (last_by call kept last) (headed_by call now)
in_step_by (appended c) kept last now s = record { file = s.file; new = same_last c kept.draft ∙ s.new }
in_step_by (append_failed c) kept last now s = record { file = s.file; new = same_last c kept.draft ∙ s.new }
in_step_by synced kept last now s = record { file = s.file; new = s.new }
in_step_by sync_failed kept last now s = s
in_step_by (renewal_began header changes) kept last now s = record { file = s.file; new = refl }
in_step_by renewal_went_on kept last now s = s
in_step_by renewed kept last now s = in_step_placed kept.changes kept.durable last kept.draft now.beside now.file s.file s.new
in_step_by renewal_failed kept last now s = s

pub in_step : (calls : List StoreCall) (kept : Kept) (last : ℕ) (now : Headed) → InStep kept last now → InStep (after_calls calls kept) (last_after kept calls last) (headed_after calls now)
in_step [] kept last now s = s
in_step (call ∷ calls) kept last now s = in_step calls (after_call call kept) (last_by call kept last) (headed_by call now) (in_step_by call kept last now s)

pub in_step_at_first : (h : Header) (rows : Rows) → InStep (kept_rows h.last rows) h.last (headed h)
in_step_at_first h rows = record { file = refl; new = refl }

of_beside : (first : Header) (last : ℕ) (beside : Option Header) → Some last ≡ option_map (λ h. h.last) beside → (header_beside beside first).last ≡ last
of_beside first last None is = absurd cc
of_beside first last (Some header) is = let both : Some last ≡ Some header.last = is in cc

pub last_is_left : (h : Header) (rows : Rows) (calls : List StoreCall) (changes : List Change) (may : MayLeaveAfter (kept_rows h.last rows) calls changes) → (header_left h may).last ≡ last_left h.last may
last_is_left h rows calls changes (first_changes may) = (in_step calls (kept_rows h.last rows) h.last (headed h) (in_step_at_first h rows)).file
last_is_left h rows calls changes (as_drafted before draft calls_are there left_is) =
    of_beside h draft.last (headed_after before (headed h)).beside (sym (ap (option_map (λ d. d.last)) there) ∙ (in_step before (kept_rows h.last rows) h.last (headed h) (in_step_at_first h rows)).new)
