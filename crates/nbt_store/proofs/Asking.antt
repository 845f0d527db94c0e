-- What the calls of a store ask of its disk, put together.
use Rattle.std.proofs.Common.{◌≡◌, ◌∙◌, ℕ, true, false, Bool, Option, Some, None, Result, Ok, Err, List, [], ◌∷◌, ◌++◌, append-nil, append_assoc, inr, ap, sym, subst, refl}
use Rattle.std.specs.Prelude.{◌≤◌, ◌+◌, ◌-◌, ◌^◌, is_err, IfOk, if◌then◌else◌, length, min}
use Rattle.nbt_port.proofs.Chains.{chain_one}
use Rattle.nbt_text.specs.Lines.{one_line}
use Rattle.nbt_store.specs.Lines.{IsLine}
use Rattle.nbt_store.specs.Records.{IsRecord}
use Rattle.nbt_store.specs.declared.form.Form.TheVariants.{Three}
use Rattle.nbt_port.specs.PortCalls.{Chain}
use Rattle.nbt_store.specs.declared.change.Change.{Change}
use Rattle.nbt_store.specs.declared.disk_store.DiskStore.{DiskStore}
use Rattle.nbt_store.specs.declared.draft.Draft.{Draft as NewFile}
use Rattle.nbt_store.specs.declared.header.Header.{Header}
use Rattle.nbt_store.specs.Calls.{StoreCall, appended, append_failed, syncing, renewal_began, renewal_went_on, renewed, renewal_failed, going_on, has_failed}
use Rattle.nbt_store.specs.DiskCalls.{DiskCall, created, create_failed, added_beside, add_beside_failed, installed, install_failed, added, add_failed, flushing, flushed, flush_failed}
use Rattle.nbt_store.specs.DiskStores.{AreNewLines, Asks, AsksForLine, AsksToBegin, AsksToGoOn, Beside, IsAsked, IsLastPart, IsNewFront, IsNewLine, Tail, adds_a_part, asks_nothing, at_end, at_front, at_part, beside_of, disk_of, is_broken, leases_in, lines_in, lines_of, lines_after, one_more_line, part_most, StoreDoes, tail_at, tail_of, tail_with, with_line_of, written_of, written_after}

-- ---- a line

pub line_added : {D : Type 0} (does : D → DiskCall → D → Type 0) (old new : D) (octets : List ℕ) (sum next : ℕ) (change : Change) (before after : Option Beside) → IsNewLine octets sum change next → after ≡ with_line_of change before → does old (added octets) new
    → IsAsked does old new (appended change) (record { sum = sum; beside = before }) (record { sum = next; beside = after })
line_added does old new octets sum next change before after line too did =
    (added octets ∷ [], chain_one does old (added octets) new did, (octets, next, line, refl, ap (λ (b : Option Beside). record { sum = next; beside = b }) too))

pub line_not_added : {D : Type 0} (does : D → DiskCall → D → Type 0) (old new : D) (octets : List ℕ) (sum last : ℕ) (change : Change) (before : Option Beside) (next : Tail) → IsNewLine octets sum change last → does old (add_failed octets) new
    → IsAsked does old new (append_failed change) (record { sum = sum; beside = before }) next
line_not_added does old new octets sum last change before next line did = (add_failed octets ∷ [], chain_one does old (add_failed octets) new did, inr (octets, last, line, refl))

-- ---- a new file

pub front_added : {D : Type 0} (does : D → DiskCall → D → Type 0) (old new : D) (front : List ℕ) (header : Header) (changes : List Change) (begun : Beside) (sum : ℕ) (before : Option Beside) → IsNewFront front header (length changes) begun.sum
    → begun ≡ record { leases = length changes; lines = length changes; left = changes; sum = begun.sum } → does old (created front) new
    → IsAsked does old new (renewal_began header changes) (record { sum = sum; beside = before }) (record { sum = sum; beside = Some begun })
front_added does old new front header changes begun sum before is began did =
    (created front ∷ [], chain_one does old (created front) new did, (front, begun.sum, is, refl, ap (λ (b : Beside). record { sum = sum; beside = Some b }) began))

pub front_not_added : {D : Type 0} (does : D → DiskCall → D → Type 0) (old new : D) (front : List ℕ) (header : Header) (leases last : ℕ) (before after : Tail) → IsNewFront front header leases last → does old (create_failed front) new → IsAsked does old new renewal_failed before after
front_not_added does old new front header leases last before after is did = (create_failed front ∷ [], chain_one does old (create_failed front) new did, at_front front header leases last is)

-- A part of a new file is written: it had these changes without lines, and has these.
module _ {D : Type 0} (does : D → DiskCall → D → Type 0) (old first : D) (here onward : Beside) (octets : List ℕ) (part : List Change) (split : here.left ≡ part ++ onward.left) (few : length part ≤ part_most) (lines : AreNewLines here.sum octets part onward.sum) where
  pub part_not_added : (sum : ℕ) (after : Tail) → does old (add_beside_failed octets) first → IsAsked does old first renewal_failed (record { sum = sum; beside = Some here }) after
  part_not_added sum after did = (add_beside_failed octets ∷ [], chain_one does old (add_beside_failed octets) first did, at_part here octets part onward.left onward.sum refl split lines)

  pub part_added : onward.leases ≡ here.leases → onward.lines ≡ here.lines → (sum : ℕ) → does old (added_beside octets) first → IsAsked does old first renewal_went_on (record { sum = sum; beside = Some here }) (record { sum = sum; beside = Some onward })
  part_added leases counts sum did =
      let same : record { leases = here.leases; lines = here.lines; left = onward.left; sum = onward.sum } ≡ onward =
      ap (λ (n : ℕ). record { leases = n; lines = here.lines; left = onward.left; sum = onward.sum }) (sym leases) ∙ ap (λ (n : ℕ). record { leases = onward.leases; lines = n; left = onward.left; sum = onward.sum }) (sym counts) in (
        added_beside octets ∷ [],
        chain_one does old (added_beside octets) first did,
        subst (λ (b : Beside). Asks renewal_went_on (record { sum = sum; beside = Some here }) (added_beside octets ∷ []) (record { sum = sum; beside = Some b })) same (adds_a_part here octets part onward.left onward.sum refl split few lines),
      )

  module _ (whole : onward.left ≡ []) where
    all_of_it : here.left ≡ part
    all_of_it = split ∙ ap (λ (cs : List Change). part ++ cs) whole ∙ append-nil part

    last_part : (sum : ℕ) → IsLastPart (record { sum = sum; beside = Some here }) octets onward.sum
    last_part sum = record { new = here; there = refl; few = subst (λ (cs : List Change). length cs ≤ part_most) (sym all_of_it) few; lines = subst (λ (cs : List Change). AreNewLines here.sum octets cs onward.sum) (sym all_of_it) lines }

    pub last_not_added : (sum : ℕ) (after : Tail) (new : D) → does old (added_beside octets) first → does first install_failed new → IsAsked does old new renewal_failed (record { sum = sum; beside = Some here }) after
    last_not_added sum after new one two = (added_beside octets ∷ install_failed ∷ [], (first, one, (new, two, refl)), at_end octets onward.sum (last_part sum))

    pub last_added : (sum : ℕ) (new : D) → does old (added_beside octets) first → does first installed new → IsAsked does old new renewed (record { sum = sum; beside = Some here }) (tail_at onward.sum)
    last_added sum new one two = (added_beside octets ∷ installed ∷ [], (first, one, (new, two, refl)), (octets, onward.sum, last_part sum, refl, refl))

-- ---- a call of the store

pub call_does : {D : Type 0} (does : D → DiskCall → D → Type 0) (old new : DiskStore D) (after : D) (call : StoreCall) → IsAsked does (disk_of old) after call (tail_of old) (tail_of new) → disk_of new ≡ after → is_broken old ≡ false → is_broken new ≡ has_failed call
    → written_of new ≡ written_after call (tail_of old) (written_of old) → lines_of new ≡ lines_after call (tail_of old) (lines_of old) → StoreDoes does old call new
call_does does old new after call asked same whole breaks written counts = record {
  asked = asked.0;
  chain = subst (λ (disk : _). Chain does (disk_of old) asked.0 disk) (sym same) asked.1;
  asks = asked.2;
  breaks = breaks;
  nothing = λ broken. let clash : false ≡ true = sym whole ∙ broken in absurd cc;
  written_is = written;
  counts = counts;
}

sync_asked : {D A E : Type 0} (does : D → DiskCall → D → Type 0) (old new : D) (before after : Tail) (result : Result A E) → after ≡ before → does old (flushing result) new → IsAsked does old new (syncing result) before after
sync_asked does old new before after (Ok done) e did = (flushed ∷ [], chain_one does old flushed new did, (refl, e))
sync_asked does old new before after (Err why) e did = (flush_failed ∷ [], chain_one does old flush_failed new did, inr refl)

failed_sync : {A E : Type 0} (result : Result A E) → has_failed (syncing result) ≡ is_err result
failed_sync (Ok done) = refl
failed_sync (Err why) = refl

lines_kept : {A E : Type 0} (result : Result A E) (tail : Tail) (lines : ℕ) → lines_after (syncing result) tail lines ≡ lines
lines_kept (Ok done) tail lines = refl
lines_kept (Err why) tail lines = refl

written_kept : {A E : Type 0} (result : Result A E) (tail : Tail) (written : ℕ) → written_after (syncing result) tail written ≡ written
written_kept (Ok done) tail written = refl
written_kept (Err why) tail written = refl

same_sync : {A B E F : Type 0} (done : Result A E) (result : Result B F) → is_err result ≡ is_err done → syncing done ≡ syncing result
same_sync (Ok x) (Ok y) e = refl
same_sync (Err x) (Err y) e = refl
same_sync (Ok x) (Err y) e = absurd cc
same_sync (Err x) (Ok y) e = absurd cc

pub sync_does : {D A B E F : Type 0} (does : D → DiskCall → D → Type 0) (old new : DiskStore D) (after : D) (done : Result A E) (result : Result B F) → does (disk_of old) (flushing done) after → disk_of new ≡ after → is_broken old ≡ false
    → is_broken new ≡ is_err done → is_err result ≡ is_err done → tail_of new ≡ tail_of old → written_of new ≡ written_of old → lines_of new ≡ lines_of old → StoreDoes does old (syncing result) new
sync_does does old new after done result did same whole breaks as_done tails written counts =
    call_does does old new after (syncing result) (subst (λ (call : StoreCall). IsAsked does (disk_of old) after call (tail_of old) (tail_of new)) (same_sync done result as_done) (sync_asked does (disk_of old) after (tail_of old) (tail_of new) done tails did)) same whole
    (breaks ∙ sym as_done ∙ sym (failed_sync result)) (written ∙ sym (written_kept result (tail_of old) (written_of old))) (counts ∙ sym (lines_kept result (tail_of old) (lines_of old)))

-- ---- a call whose parts returned a value

same_value : {A : Type 0} (v s : A) {E : Type 0} (result : Result A E) → result ≡ Ok v → result ≡ Ok s → v ≡ s
same_value {A} v s result a b = let same : ◌≡◌ {A = Result A _} (Ok v) (Ok s) = sym a ∙ b in cc

-- Of a store that wasn't broken a part of a call returned this, and then the store was noted as it is.
module _ {D : Type 0} (does : D → DiskCall → D → Type 0) (old new : DiskStore D) (after : D) (same : disk_of new ≡ after) (whole : is_broken old ≡ false) where
  pub line_went_well : {E F : Type 0} (change : Change) (beside : Option Beside) (done : Result ℕ E) (result : Result ℕ F) (s : ℕ) → AsksForLine does change (tail_of old).sum (tail_of old).beside (disk_of old) done beside after → IfOk done (λ v. result ≡ Ok v) → is_err result ≡ is_err done
      → result ≡ Ok s → is_broken new ≡ is_err done → (tail_of new).sum ≡ s → (tail_of new).beside ≡ beside → written_of new ≡ written_of old → lines_of new ≡ min (lines_of old + 1) (2 ^ 64 - 1) → StoreDoes does old (appended change) new
  line_went_well change beside (Ok v) result s asked value fails is breaks sums besides written counts =
      let sum_is : (tail_of new).sum ≡ v = sums ∙ sym (same_value v s result value is) in
      let at : record { sum = v; beside = beside } ≡ tail_of new = ap (λ (n : ℕ). record { sum = n; beside = beside }) (sym sum_is) ∙ ap (λ (b : Option Beside). record { sum = (tail_of new).sum; beside = b }) (sym besides) in
      call_does does old new after (appended change) (subst (IsAsked does (disk_of old) after (appended change) (tail_of old)) at asked) same whole breaks written counts
  line_went_well change beside (Err why) result s asked value fails is breaks sums besides written counts = let clash : false ≡ true = ap is_err (sym is) ∙ fails in absurd cc

  pub line_went_badly : {E F : Type 0} (change : Change) (beside : Option Beside) (done : Result ℕ E) (result : Result ℕ F) → AsksForLine does change (tail_of old).sum (tail_of old).beside (disk_of old) done beside after → is_err result ≡ is_err done
      → is_err result ≡ true → is_broken new ≡ is_err done → written_of new ≡ written_of old → lines_of new ≡ lines_of old → StoreDoes does old (append_failed change) new
  line_went_badly change beside (Ok v) result asked fails bad breaks written counts = let clash : true ≡ false = sym bad ∙ fails in absurd cc
  line_went_badly change beside (Err why) result asked fails bad breaks written counts = call_does does old new after (append_failed change) (asked (tail_of new)) same whole breaks written counts

  pub front_went_well : {E F : Type 0} (header : Header) (changes : List Change) (done : Result NewFile E) (result : Result NewFile F) (begun : NewFile) → AsksToBegin does header changes (disk_of old) done after → IfOk done (λ v. result ≡ Ok v) → is_err result ≡ is_err done
      → result ≡ Ok begun → is_broken new ≡ is_err done → (tail_of new).sum ≡ (tail_of old).sum → (tail_of new).beside ≡ Some (beside_of begun) → written_of new ≡ written_of old → lines_of new ≡ lines_of old → StoreDoes does old (renewal_began header changes) new
  front_went_well header changes (Ok v) result begun asked value fails is breaks sums besides written counts =
      let beside_is : Some (beside_of v) ≡ (tail_of new).beside = ap (λ (f : NewFile). Some (beside_of f)) (same_value v begun result value is) ∙ sym besides in
      let at : record { sum = (tail_of old).sum; beside = Some (beside_of v) } ≡ tail_of new = ap (λ (n : ℕ). record { sum = n; beside = Some (beside_of v) }) (sym sums) ∙ ap (λ (b : Option Beside). record { sum = (tail_of new).sum; beside = b }) beside_is in
      call_does does old new after (renewal_began header changes) (subst (IsAsked does (disk_of old) after (renewal_began header changes) (tail_of old)) at (asked (tail_of old).sum (tail_of old).beside)) same whole breaks written counts
  front_went_well header changes (Err why) result begun asked value fails is breaks sums besides written counts = let clash : false ≡ true = ap is_err (sym is) ∙ fails in absurd cc

  pub front_went_badly : {E F : Type 0} (header : Header) (changes : List Change) (done : Result NewFile E) (result : Result NewFile F) → AsksToBegin does header changes (disk_of old) done after → is_err result ≡ is_err done → is_err result ≡ true → is_broken new ≡ is_err done
      → written_of new ≡ written_of old → lines_of new ≡ lines_of old → StoreDoes does old renewal_failed new
  front_went_badly header changes (Ok v) result asked fails bad breaks written counts = let clash : true ≡ false = sym bad ∙ fails in absurd cc
  front_went_badly header changes (Err why) result asked fails bad breaks written counts = call_does does old new after renewal_failed (asked (tail_of old) (tail_of new)) same whole breaks written counts

  pub none_went_on : (tail_of old).beside ≡ None → tail_of new ≡ tail_of old → disk_of old ≡ after → is_broken new ≡ false → written_of new ≡ written_of old → lines_of new ≡ lines_of old → StoreDoes does old renewal_went_on new
  none_went_on none tails stays breaks written counts =
      call_does does old new after renewal_went_on ([], sym stays, subst (Asks renewal_went_on (tail_of old) []) (sym tails) (asks_nothing none)) same whole breaks written counts

  pub part_went_well : {E F : Type 0} (here onward : Beside) (done : Result Bool E) (result : Result Bool F) (b : Bool) → AsksToGoOn does here (disk_of old) done onward after → IfOk done (λ v. result ≡ Ok v) → is_err result ≡ is_err done → result ≡ Ok b → is_broken new ≡ is_err done
      → (tail_of old).beside ≡ Some here → onward.leases ≡ here.leases → onward.lines ≡ here.lines → tail_of new ≡ tail_with b onward (record { sum = (tail_of old).sum; beside = None }) → written_of new ≡ (if b then onward.leases else written_of old) → lines_of new ≡ (if b then onward.lines else lines_of old)
      → (G : Type 0) → StoreDoes does old (going_on {E = G} (Ok b)) new
  part_went_well here onward (Ok v) result b asked value fails is breaks there leases counts_same tails written counts G =
      by_kind b (same_value v b result value is) tails written counts
    where
      start : record { sum = (tail_of old).sum; beside = Some here } ≡ tail_of old
      start = ap (λ (o : Option Beside). record { sum = (tail_of old).sum; beside = o }) (sym there)

      by_kind : (b : Bool) → v ≡ b → tail_of new ≡ tail_with b onward (record { sum = (tail_of old).sum; beside = None }) → written_of new ≡ (if b then onward.leases else written_of old) → lines_of new ≡ (if b then onward.lines else lines_of old) → StoreDoes does old (going_on {E = G} (Ok b)) new
      by_kind true v_is tails written counts =
          let a : IsAsked does (disk_of old) after renewed (record { sum = (tail_of old).sum; beside = Some here }) (tail_at onward.sum) = subst (λ (w : Bool). IsAsked does (disk_of old) after (if w then renewed else renewal_went_on) (record { sum = (tail_of old).sum; beside = Some here }) (tail_with w onward (record { sum = (tail_of old).sum; beside = None }))) v_is (asked (tail_of old).sum) in
          call_does does old new after renewed (subst (λ (t : Tail). IsAsked does (disk_of old) after renewed t (tail_of new)) start (subst (IsAsked does (disk_of old) after renewed (record { sum = (tail_of old).sum; beside = Some here })) (sym tails) a)) same whole breaks
          (written ∙ leases ∙ ap (λ (o : Option Beside). leases_in o (written_of old)) (sym there)) (counts ∙ counts_same ∙ ap (λ (o : Option Beside). lines_in o (lines_of old)) (sym there))
      by_kind false v_is tails written counts =
          let a : IsAsked does (disk_of old) after renewal_went_on (record { sum = (tail_of old).sum; beside = Some here }) (record { sum = (tail_of old).sum; beside = Some onward }) = subst (λ (w : Bool). IsAsked does (disk_of old) after (if w then renewed else renewal_went_on) (record { sum = (tail_of old).sum; beside = Some here }) (tail_with w onward (record { sum = (tail_of old).sum; beside = None }))) v_is (asked (tail_of old).sum) in
          call_does does old new after renewal_went_on (subst (λ (t : Tail). IsAsked does (disk_of old) after renewal_went_on t (tail_of new)) start (subst (IsAsked does (disk_of old) after renewal_went_on (record { sum = (tail_of old).sum; beside = Some here })) (sym tails) a)) same whole breaks written counts
  part_went_well here onward (Err why) result b asked value fails is breaks there leases counts_same tails written counts G = let clash : false ≡ true = ap is_err (sym is) ∙ fails in absurd cc

  pub part_went_badly : {E F : Type 0} (here onward : Beside) (done : Result Bool E) (result : Result Bool F) → AsksToGoOn does here (disk_of old) done onward after → is_err result ≡ is_err done → is_err result ≡ true → is_broken new ≡ is_err done
      → (tail_of old).beside ≡ Some here → written_of new ≡ written_of old → lines_of new ≡ lines_of old → StoreDoes does old renewal_failed new
  part_went_badly here onward (Ok v) result asked fails bad breaks there written counts = let clash : true ≡ false = sym bad ∙ fails in absurd cc
  part_went_badly here onward (Err why) result asked fails bad breaks there written counts =
      call_does does old new after renewal_failed (subst (λ (t : Tail). IsAsked does (disk_of old) after renewal_failed t (tail_of new)) (ap (λ (o : Option Beside). record { sum = (tail_of old).sum; beside = o }) (sym there)) (asked (tail_of old).sum (tail_of new))) same whole breaks written counts

-- ---- a part, line by line

pub split_on : (all part left rest : List Change) (change : Change) → all ≡ part ++ left → left ≡ change ∷ rest → all ≡ (part ++ change ∷ []) ++ rest
split_on all part left rest change whole first = whole ∙ ap (λ (cs : List Change). part ++ cs) first ∙ sym (append_assoc part (change ∷ []) rest)

pub line_on : (sum last next : ℕ) (octets more line : List ℕ) (part : List Change) (change : Change) → AreNewLines sum octets part last → IsRecord Three last line change next → IsLine line → more ≡ octets ++ one_line line → AreNewLines sum more (part ++ change ∷ []) next
line_on sum last next octets more line part change lines says is same =
    subst (λ (o : List ℕ). AreNewLines sum o (part ++ change ∷ []) next) (sym same) (one_more_line octets (one_line line) part change last next lines (record { line = line; says = says; is_line = is; octets_are = refl }))
