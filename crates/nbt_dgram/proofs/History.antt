-- Packets that are put one after the other: each slot carries the fragments of its key, and what is told they tell.
use Rattle.std.proofs.Common.{◌≡◌, ℕ, ◌+◌, ◌<◌, ◌≤◌, Bool, true, false, List, [], ◌∷◌, ◌++◌, length, map, set, replicate, Option, Some, None, refl, sym, ap, subst, ◌∙◌, arith, inl, inr}
use Rattle.std.specs.Prelude.{slice_get}
use Rattle.std.specs.List.{position}
use Rattle.std.proofs.lemmas.Bool.{cases_lt, cases_eq, lt-ltb, ltb-true}
use Rattle.std.proofs.lemmas.List.Quantifiers.{position-Some}
use Rattle.nbt_dgram.specs.declared.dgram.Names.{Names}
use Rattle.nbt_dgram.specs.declared.dgram.Part.TheVariants.{First}
use Rattle.nbt_dgram.specs.declared.slot.Key.{Key}
use Rattle.nbt_dgram.specs.declared.slot.Slot.{Slot}
use Rattle.nbt_dgram.specs.declared.joined.Dropped.{Dropped}
use Rattle.nbt_dgram.specs.declared.joined.Dropped.TheVariants as reasons
use Rattle.nbt_dgram.specs.Dgram.{FragmentValue, fragment, DgramValue}
use Rattle.nbt_dgram.specs.Slot.{fresh, joined, Since, one_more}
use Rattle.nbt_dgram.specs.Joiner.{JoinedValue, whole, waiting, dropped, is_old, kept, is_of, is_free, emptied, key_of, Joins, too_long, no_room, begins, conflicts, waits, completes, JoinerValue, Puts, clock_back, alone, joins, Sweeps, too_early, given_up}
use Rattle.nbt_dgram.specs.Carrying.{Put, put, Run, is_new, after_put, after_sweep, IsAlone, Passes, other_key, went_back, is_alone, Ends, nobody, Unfinished, none, since, fragments_in, Leaves, none_came, Tells, is_too_long, is_full, is_conflict, is_whole, is_unfinished}
use Rattle.std.proofs.lemmas.Option.{get_or_from_slice_get, slice_get_within}
use Rattle.nbt_dgram.proofs.SlotKeys.{key_or, of_is, is_of_own, is_not_of, NoSlot, slot_or_none, no_slot, got_mapped, map_got, got_set, set_here, set_elsewhere, none_in_free}
use Rattle.nbt_dgram.proofs.Carried.{not_passing, none_later, none_passes, none_ended, Held, held_begins, held_joins, held_passes, held_given_up, held_left, cut_makes_nothing}
use Rattle.nbt_dgram.proofs.Holding as holding
use Rattle.nbt_dgram.proofs.OnePut.{one_fragment}

-- What slots are after packets: each carries the fragments of its key, no two have one key, and of a key without a slot
-- nothing is unfinished.
record AreHeld (puts : List Put) (last : ℕ) (slots : List (Option Slot)) : Type 0 where
  held : (place : ℕ) (s : Slot) → slice_get slots place ≡ Some (Some s) → Held puts s
  young : (place : ℕ) (s : Slot) → slice_get slots place ≡ Some (Some s) → last ≤ s.began + 2000
  idle : (key : Key) → NoSlot key slots → Leaves key puts last none
  single : (p q : ℕ) (s t : Slot) → slice_get slots p ≡ Some (Some s) → slice_get slots q ≡ Some (Some t) → s.key ≡ t.key → p ≡ q

held_at_first : (count : ℕ) → AreHeld [] 0 (replicate count None)
held_at_first count = record {
  held = λ place s e. absurd (none_in_free count place s e);
  young = λ place s e. absurd (none_in_free count place s e);
  idle = λ key without. none_came [] 0 nobody;
  single = λ p q s t x y same. absurd (none_in_free count p s x);
}

-- ---- slots that are given up

module _ (puts : List Put) (last now : ℕ) (slots : List (Option Slot)) (later : last ≤ now) (before : AreHeld puts last slots) where
  not_old : (s : Slot) → is_old now (Some s) ≡ false → now ≤ s.began + 2000
  not_old s is = elim (cases_lt (s.began + 2000) now) [ inl past ↦ absurd (let e : true ≡ false = sym (lt-ltb (s.began + 2000) now past) ∙ is in cc) | inr young ↦ young ]

  idle_by : (key : Key) → NoSlot key (map (kept now) slots) → (place : ℕ) (s : Slot) → slice_get slots place ≡ Some (Some s) → s.key ≡ key → (b : Bool) → is_old now (Some s) ≡ b → Leaves key puts now none
  idle_by key without place s there same true is = subst (λ (k : Key). Leaves k puts now none) same (held_given_up puts s now (ltb-true (s.began + 2000) now is) (before.held place s there))
  idle_by key without place s there same false is = absurd (without place s (map_got (is_old now) slots place s there is) same)

  held_kept : AreHeld puts now (map (kept now) slots)
  held_kept = record {
    held = λ place s e. before.held place s (got_mapped (is_old now) slots place s e).0;
    young = λ place s e. not_old s (got_mapped (is_old now) slots place s e).1;
    idle = λ key without.
        elim (slot_or_none key slots) [
          | inl found ↦ idle_by key without found.0 found.1 found.2 found.3 (is_old now (Some found.1)) refl
          | inr none_at ↦ none_later key puts last now later (before.idle key none_at)
        ];
    single = λ p q s t x y same. before.single p q s t (got_mapped (is_old now) slots p s x).0 (got_mapped (is_old now) slots q t y).0 same;
  }

-- ---- a packet that touches no slot

held_passed : (puts : List Put) (now : ℕ) (slots : List (Option Slot)) (p : Put) → ((key : Key) → Passes key p) → AreHeld puts now slots → AreHeld (puts ++ p ∷ []) now slots
held_passed puts now slots p pass before = record {
  held = λ place s e. held_passes puts s p (pass s.key) (before.held place s e);
  young = before.young;
  idle = λ key without. none_passes key puts now p (pass key) (before.idle key without);
  single = before.single;
}

-- ---- a packet of a key

module _ (puts : List Put) (now : ℕ) (slots : List (Option Slot)) (p : Put) (before : AreHeld puts now slots) where
  abbrev key : Key
  key = key_of p.packet

  passes_other : (k : Key) → (k ≡ key → ⊥) → Passes k p
  passes_other k other = other_key (λ same. other (sym same))

  -- it leaves no slot of its key, and all others
  held_ended : (after : List (Option Slot)) → Ends key p → ((place : ℕ) (s : Slot) → slice_get after place ≡ Some (Some s) → (slice_get slots place ≡ Some (Some s)) × (s.key ≡ key → ⊥))
      → ((place : ℕ) (s : Slot) → slice_get slots place ≡ Some (Some s) → (s.key ≡ key → ⊥) → slice_get after place ≡ Some (Some s)) → AreHeld (puts ++ p ∷ []) now after
  held_ended after ends down up = record {
    held = λ place s e. held_passes puts s p (passes_other s.key (down place s e).1) (before.held place s (down place s e).0);
    young = λ place s e. before.young place s (down place s e).0;
    idle = λ k without.
        elim (key_or k key) [
          | inl same ↦ subst (λ (j : Key). Leaves j (puts ++ p ∷ []) now none) (sym same) (none_ended key puts now p ends)
          | inr other ↦ none_passes k puts now p (passes_other k other) (before.idle k (λ place s e same. without place s (up place s e (λ own. other (sym same ∙ own))) same))
        ];
    single = λ a b s t x y same. before.single a b s t (down a s x).0 (down b t y).0 same;
  }

  held_emptied : Ends key p → AreHeld (puts ++ p ∷ []) now (map (emptied key) slots)
  held_emptied ends = held_ended (map (emptied key) slots) ends
      (λ place s e. let got = got_mapped (is_of key) slots place s e in (got.0, (λ same. let e : true ≡ false = sym (is_of_own key s same) ∙ got.1 in cc)))
      (λ place s e other. map_got (is_of key) slots place s e (is_not_of key s other))

  -- it leaves one slot of its key, and all others
  held_set : (i : ℕ) (new : Slot) → i < length slots → new.key ≡ key → Held (puts ++ p ∷ []) new → now ≤ new.began + 2000
      → ((place : ℕ) (s : Slot) → slice_get slots place ≡ Some (Some s) → (place ≡ i → ⊥) → s.key ≡ key → ⊥)
      → ((s : Slot) → slice_get slots i ≡ Some (Some s) → s.key ≡ key) → AreHeld (puts ++ p ∷ []) now (set slots i (Some new))
  held_set i new within own carries young others mine = record {
    held = λ place s e.
        elim (got_set slots i new place s e) [
          | inl is ↦ subst (Held (puts ++ p ∷ [])) is.1 carries
          | inr old ↦ held_passes puts s p (passes_other s.key (others place s old.1 old.0)) (before.held place s old.1)
        ];
    young = λ place s e. elim (got_set slots i new place s e) [ inl is ↦ subst (λ (u : Slot). now ≤ u.began + 2000) is.1 young | inr old ↦ before.young place s old.1 ];
    idle = λ k without.
        none_passes k puts now p (passes_other k (λ same. without i new (set_here slots i new within) (own ∙ sym same)))
        (before.idle k (λ place s e same.
        elim (cases_eq place i) [
          | inl here ↦ without i new (set_here slots i new within) (own ∙ sym (mine s (subst (λ (q : ℕ). slice_get slots q ≡ Some (Some s)) here e)) ∙ same)
          | inr elsewhere ↦ without place s (set_elsewhere slots i new place s elsewhere e) same
        ]));
    single = λ a b s t x y same.
        elim (got_set slots i new a s x) [
          | inl first ↦ elim (got_set slots i new b t y) [
            | inl second ↦ first.0 ∙ sym second.0
            | inr second ↦ absurd (others b t second.1 second.0 (sym same ∙ sym (ap (λ (u : Slot). u.key) first.1) ∙ own))
          ]
          | inr first ↦ elim (got_set slots i new b t y) [
            | inl second ↦ absurd (others a s first.1 first.0 (same ∙ sym (ap (λ (u : Slot). u.key) second.1) ∙ own))
            | inr second ↦ before.single a b s t first.1 second.1 same
          ]
        ];
  }

-- the place of a slot that `position` finds
found_at : (key : Key) (slots : List (Option Slot)) (place : ℕ) (s : Slot) → position (is_of key) slots ≡ Some place → slice_get slots place ≡ Some (Some s) → s.key ≡ key
found_at key slots place s found there = of_is key s (subst (λ (slot : Option Slot). is_of key slot ≡ true) (get_or_from_slice_get slots place (Some s) None there) (position-Some (is_of key) slots place None found).1)

not_free : (slots : List (Option Slot)) (place : ℕ) (s : Slot) → position is_free slots ≡ Some place → slice_get slots place ≡ Some (Some s) → ⊥
not_free slots place s free there = let e : false ≡ true = ap is_free (sym (get_or_from_slice_get slots place (Some s) None there)) ∙ (position-Some is_free slots place None free).1 in cc

-- what is dropped for another cause than its moment, and what is whole, ends the datagram of its key
drops : (now : ℕ) (d : DgramValue) (f : FragmentValue) (reason : Dropped) → d.body ≡ fragment f → ¬ IsAlone f → (reason ≡ reasons.ClockBack → ⊥) → Ends (key_of d) (put now d (dropped reason))
drops now d f reason body cut not = ((λ e. absurd cc), not_passing (put now d (dropped reason)) f body cut (λ e. not (let same : dropped reason ≡ dropped reasons.ClockBack = e in cc)))

module _ (puts : List Put) (now : ℕ) (slots : List (Option Slot)) (d : DgramValue) (f : FragmentValue) (body : d.body ≡ fragment f) (cut : ¬ IsAlone f) (before : AreHeld puts now slots) where
  held_joined : (j : JoinedValue) (after : List (Option Slot)) → Joins slots now (key_of d) f j after → AreHeld (puts ++ put now d j ∷ []) now after
  held_joined _ _ (too_long above) = held_emptied puts now slots (put now d (dropped reasons.TooLong)) before (drops now d f reasons.TooLong body cut (λ e. absurd cc))
  held_joined _ _ (no_room fits new full) =
      held_ended puts now slots (put now d (dropped reasons.Full)) before slots (drops now d f reasons.Full body cut (λ e. absurd cc))
      (λ place s e. (e, no_slot (key_of d) slots new place s e)) (λ place s e other. e)
  held_joined _ _ (begins place fits new free) =
      let without : NoSlot (key_of d) slots = no_slot (key_of d) slots new in
      held_set puts now slots (put now d waiting) before place (joined f (fresh (key_of d) now f.delivery)) (position-Some is_free slots place None free).0 refl
      (held_begins puts (put now d waiting) (key_of d) f (before.idle (key_of d) without) (record { of_key = refl; body = body; cut = cut; outcome = refl }) fits) (omega arith)
      (λ q s e other. without q s e) (λ s e. absurd (not_free slots place s free e))
  held_joined _ _ (conflicts place s fits found there not) = held_emptied puts now slots (put now d (dropped reasons.Conflict)) before (drops now d f reasons.Conflict body cut (λ e. absurd cc))
  held_joined _ _ (waits place s fits found there agrees not) =
      let own : s.key ≡ key_of d = found_at (key_of d) slots place s found there in
      held_set puts now slots (put now d waiting) before place (joined f s) (slice_get_within slots place (Some s) there) own
      (held_joins puts s (put now d waiting) f (record { of_key = sym own; body = body; cut = cut; outcome = refl }) (before.young place s there) fits agrees (before.held place s there)) (before.young place s there)
      (λ q t e other same. other (before.single q place t s e there (same ∙ sym own))) (λ t e. found_at (key_of d) slots place t found e)
  held_joined _ _ (completes place s names payload fits found there agrees is) =
      held_emptied puts now slots (put now d (whole names payload)) before ((λ e. absurd cc), not_passing (put now d (whole names payload)) f body cut (λ e. absurd cc))

  -- ---- and what is told

  left_of : (u : Unfinished) × Leaves (key_of d) puts now u
  left_of =
      elim (slot_or_none (key_of d) slots) [
        | inl found ↦ (let left = held_left puts found.1 now (before.young found.0 found.1 found.2) (before.held found.0 found.1 found.2) in
            (since found.1.began left.0, subst (λ (k : Key). Leaves k puts now (since found.1.began left.0)) found.3 left.1))
        | inr without ↦ (none, before.idle (key_of d) without)
      ]

  join_tells : (j : JoinedValue) (after : List (Option Slot)) → Joins slots now (key_of d) f j after → (u : Unfinished) × Leaves (key_of d) puts now u × Tells (fragments_in u) f j
  join_tells _ _ (too_long above) = (left_of.0, left_of.1, is_too_long above)
  join_tells _ _ (no_room fits new full) = (none, before.idle (key_of d) (no_slot (key_of d) slots new), is_full fits refl)
  join_tells _ _ (conflicts place s fits found there not) =
      let left = held_left puts s now (before.young place s there) (before.held place s there) in (
        since s.began left.0,
        subst (λ (k : Key). Leaves k puts now (since s.began left.0)) (found_at (key_of d) slots place s found there) left.1,
        is_conflict fits (λ all. not (holding.all_agree left.0 s left.2 f left.3 left.4 all)),
      )
  join_tells _ _ (begins place fits new free) = (none, before.idle (key_of d) (no_slot (key_of d) slots new), is_unfinished fits (λ g member. absurd (holding.none_in g member)) (cut_makes_nothing f cut))
  join_tells _ _ (waits place s fits found there agrees not) =
      let left = held_left puts s now (before.young place s there) (before.held place s there) in (
        since s.began left.0,
        subst (λ (k : Key). Leaves k puts now (since s.began left.0)) (found_at (key_of d) slots place s found there) left.1,
        is_unfinished fits (holding.agrees_with_all left.0 s left.2 f agrees) (λ payload made. let w = holding.is_whole (left.0 ++ f ∷ []) (joined f s) (one_more left.0 s f left.2 fits agrees) payload made in not w.0 payload w.1),
      )
  join_tells _ _ (completes place s names payload fits found there agrees is) =
      let left = held_left puts s now (before.young place s there) (before.held place s there) in
      let more : Since (left.0 ++ f ∷ []) (joined f s) = one_more left.0 s f left.2 fits agrees in (
        since s.began left.0,
        subst (λ (k : Key). Leaves k puts now (since s.began left.0)) (found_at (key_of d) slots place s found there) left.1,
        is_whole names payload fits (holding.agrees_with_all left.0 s left.2 f agrees) (holding.made_up (left.0 ++ f ∷ []) (joined f s) more names payload is) (holding.all_named (left.0 ++ f ∷ []) (joined f s) more names payload is),
      )

-- ---- whole runs

cut_by : (f : FragmentValue) → ((names : Names) → f.part ≡ First names → f.more ≡ true) → ¬ IsAlone f
cut_by f not is = let e : true ≡ false = sym (not is.0 is.1) ∙ is.2 in cc

held_after : (puts : List Put) (now : ℕ) (d : DgramValue) (j : JoinedValue) (old new : JoinerValue) → AreHeld puts old.last old.slots → Puts old now d j new → AreHeld (puts ++ put now d j ∷ []) new.last new.slots
held_after puts now d _ old _ before (clock_back early) = held_passed puts old.last old.slots (put now d (dropped reasons.ClockBack)) (λ key. went_back refl) before
held_after puts now d _ old _ before (alone f names later is part more) =
    held_passed puts now (map (kept now) old.slots) (put now d (whole names f.payload)) (λ key. is_alone f is (names, part, more)) (held_kept puts old.last now old.slots later before)
held_after puts now d _ old _ before (joins f outcome slots later is not does) =
    held_joined puts now (map (kept now) old.slots) d f is (cut_by f not) (held_kept puts old.last now old.slots later before) outcome slots does

held_swept : (puts : List Put) (now n : ℕ) (old new : JoinerValue) → AreHeld puts old.last old.slots → Sweeps old now n new → AreHeld puts new.last new.slots
held_swept puts now _ old _ before (too_early early) = before
held_swept puts now _ old _ before (given_up later) = held_kept puts old.last now old.slots later before

are_held : (count : ℕ) (puts : List Put) (j : JoinerValue) → Run count puts j → AreHeld puts j.last j.slots
are_held count _ _ is_new = held_at_first count
are_held count _ _ (after_put puts now d outcome old new run does) = held_after puts now d outcome old new (are_held count puts old run) does
are_held count _ _ (after_sweep puts now n old new run does) = held_swept puts now n old new (are_held count puts old run) does

-- ---- the law

pub carried : (count : ℕ) (puts : List Put) (j : JoinerValue) (place : ℕ) (s : Slot) → Run count puts j → slice_get j.slots place ≡ Some (Some s)
    → (fragments : List FragmentValue) × Leaves s.key puts j.last (since s.began fragments) × Since fragments s
carried count puts j place s run there =
    let all = are_held count puts j run in
    let left = held_left puts s j.last (all.young place s there) (all.held place s there) in
    (left.0, left.1, left.2)

pub idle : (count : ℕ) (puts : List Put) (j : JoinerValue) (key : Key) → Run count puts j → NoSlot key j.slots → Leaves key puts j.last none
idle count puts j key run without = (are_held count puts j run).idle key without

pub told : (count : ℕ) (puts : List Put) (now : ℕ) (d : DgramValue) (f : FragmentValue) (outcome : JoinedValue) (old new : JoinerValue) → Run count puts old → old.last ≤ now → d.body ≡ fragment f → ¬ IsAlone f → Puts old now d outcome new
    → (u : Unfinished) × Leaves (key_of d) puts now u × Tells (fragments_in u) f outcome
told count puts now d f _ old _ run later body cut (clock_back early) = absurd (omega (arith, early, later))
told count puts now d f _ old _ run later body cut (alone g names _ other part more) = absurd (cut (subst IsAlone (one_fragment d.body g f other body) (names, part, more)))
told count puts now d f _ old _ run later body cut (joins g outcome slots _ other not does) =
    let same : g ≡ f = one_fragment d.body g f other body in
    join_tells puts now (map (kept now) old.slots) d f body cut (held_kept puts old.last now old.slots later (are_held count puts old run)) outcome slots
    (subst (λ (h : FragmentValue). Joins (map (kept now) old.slots) now (key_of d) h outcome slots) same does)
