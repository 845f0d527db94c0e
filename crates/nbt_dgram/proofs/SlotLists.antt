-- Lists of slots: what a loop over them leaves, and what joining in one place and emptying one key leave.
use Rattle.std.proofs.Common.{◌≡◌, ℕ, zero, suc, ◌+◌, ◌-◌, ◌<◌, ◌≤◌, Bool, true, false, cond, List, [], ◌∷◌, ◌++◌, length, map, take, drop, set, get_or, replicate, Option, Some, None, refl, sym, ap, subst, ◌∙◌, arith}
use Rattle.std.specs.Prelude.{slice_get, count_by}
use Rattle.std.specs.List.{position, All}
use Rattle.std.proofs.lemmas.List.{map-set, set-get_or, length-map, length-take-le, length-replicate, get_or-replicate, same_lists, get_or-append_right, get_or-drop}
use Rattle.std.proofs.lemmas.Bool.{cond_both}
use Rattle.std.proofs.lemmas.List.Edits.{map_over_more}
use Rattle.std.proofs.lemmas.List.Elements.{All-map, All-weaker, All-set, All-get_or}
use Rattle.std.proofs.lemmas.List.Sums.{count_by_more_yes, count_by_more_no}
use Rattle.std.proofs.lemmas.List.Quantifiers.{position-Some}
use Rattle.std.proofs.lemmas.Option.{get_or_from_slice_get, slice_get-get_or, slice_get_within}
use Rattle.nbt_dgram.specs.declared.slot.Key.{Key}
use Rattle.nbt_dgram.specs.declared.slot.Slot.{Slot}
use Rattle.nbt_dgram.specs.declared.joined.Step.{Step}
use Rattle.nbt_dgram.specs.declared.joined.Step.TheVariants as results
use Rattle.nbt_dgram.specs.declared.reassembly.Reassembly.{Reassembly}
use Rattle.nbt_dgram.specs.Dgram.{FragmentValue}
use Rattle.nbt_dgram.specs.Fragments.{begin_of, end_of}
use Rattle.nbt_dgram.specs.Slot.{fresh, joined}
use Rattle.nbt_dgram.specs.Joiner.{JoinedValue, waiting, is_of, emptied, Joins, no_room, begins, conflicts, waits, completes}
use Rattle.nbt_dgram.specs.Inner.Joining.{led_to, HasRoom, JoinsSlot, disagrees, unfinished, finished, IsTaken, JoinsAt, Begins, no_place, in_place}
use Rattle.nbt_dgram.proofs.Marks.{nothing_room, written-length}

-- ---- a loop that writes f over each element

pub map_step : {X : Type 0} (f : X → X) (xs ys : List X) (i : ℕ) (x y : X) → i < length xs → ys ≡ map f (take i xs) ++ drop i xs → x ≡ get_or ys i x → y ≡ f (get_or ys i x) → set ys i y ≡ map f (take (i + 1) xs) ++ drop (i + 1) xs
map_step f xs ys i x y less so_far read new = ap (set ys i) (new ∙ ap f (sym read)) ∙ map_over_more f xs ys i x less so_far read

-- what is still to come stands as it was
pub unchanged_at : {X : Type 0} (f : X → X) (xs ys : List X) (i : ℕ) (d : X) → i < length xs → ys ≡ map f (take i xs) ++ drop i xs → get_or ys i d ≡ get_or xs i d
unchanged_at {X} f xs ys i d less so_far =
    let front : length (map f (take i xs)) ≡ i = length-map (take i xs) f ∙ length-take-le i xs (omega arith) in
    let none : i ≡ i + (i - i) = omega arith in
    ap (λ (zs : List X). get_or zs i d) so_far ∙ get_or-append_right (map f (take i xs)) (drop i xs) i i d front (omega arith) ∙ get_or-drop i xs (i - i) d ∙ ap (λ (k : ℕ). get_or xs k d) (sym none)

pub count_step : {X : Type 0} (p : X → Bool) (xs : List X) (i : ℕ) (d : X) (r : Bool) (n m : ℕ) → i < length xs → r ≡ p (get_or xs i d) → n ≡ count_by p (take i xs) → m ≡ cond r (n + 1) n → m ≡ count_by p (take (i + 1) xs)
count_step p xs i d true n m less is so_far new = new ∙ ap (λ (k : ℕ). k + 1) so_far ∙ sym (count_by_more_yes p xs i d less (sym is))
count_step p xs i d false n m less is so_far new = new ∙ so_far ∙ sym (count_by_more_no p xs i d less (sym is))

-- ---- each slot has its 512 octets

-- also where those that pass a test are emptied
pub all_cleared_room : (test : Option Slot → Bool) (slots : List (Option Slot)) → All HasRoom slots → All HasRoom (map (λ slot. cond (test slot) None slot) slots)
all_cleared_room test slots rooms =
    All-map HasRoom (λ slot. cond (test slot) None slot) slots
    (All-weaker HasRoom (λ slot. HasRoom (cond (test slot) None slot)) (λ slot room. cond_both (test slot) None slot HasRoom (λ e. tt) (λ e. room)) slots rooms)

joined_room : (f : FragmentValue) (s : Slot) → end_of f ≤ 512 → length s.octets ≡ 512 → length (joined f s).octets ≡ 512
joined_room f s fits room = written-length (begin_of f) f.payload s.octets (omega (arith, room)) ∙ room

-- ---- a slot that begins

pub begins_room : (slots : List (Option Slot)) (now : ℕ) (key : Key) (f : FragmentValue) (outcome : JoinedValue) (after : List (Option Slot)) → end_of f ≤ 512 → All HasRoom slots → Begins slots now key f outcome after → All HasRoom after
begins_room slots now key f _ _ fits rooms (no_place none) = rooms
begins_room slots now key f _ _ fits rooms (in_place place free) = All-set HasRoom slots place (Some (joined f (fresh key now f.delivery))) (joined_room f (fresh key now f.delivery) fits nothing_room) rooms

pub begins_join : (slots : List (Option Slot)) (now : ℕ) (key : Key) (f : FragmentValue) (outcome : JoinedValue) (after : List (Option Slot)) → end_of f ≤ 512 → position (is_of key) slots ≡ None → Begins slots now key f outcome after
    → Joins slots now key f outcome after
begins_join slots now key f _ _ fits new (no_place none) = no_room fits new none
begins_join slots now key f _ _ fits new (in_place place free) = begins place fits new free

-- ---- the slot of a key

slot_in : (key : Key) (slot : Option Slot) → is_of key slot ≡ true → (s : Slot) × (slot ≡ Some s)
slot_in key None is = absurd cc
slot_in key (Some s) is = (s, refl)

pub taken : (slots : List (Option Slot)) (key : Key) (place : ℕ) → position (is_of key) slots ≡ Some place → IsTaken slots place
taken slots key place found =
    let at = position-Some (is_of key) slots place None found in
    let slot = slot_in key (get_or slots place None) at.1 in
    record { slot = slot.0; within = at.0; there = slice_get-get_or slots place None at.0 ∙ ap (λ (x : Option Slot). Some x) slot.1 }

-- the fragments of a slot keep its key
same_key : (old new : Slot) (f : FragmentValue) (outcome : JoinedValue) → JoinsSlot old f outcome new → new.key ≡ old.key
same_key old _ f _ (disagrees not) = refl
same_key old _ f _ (unfinished agrees not) = refl
same_key old _ f _ (finished names payload agrees is) = refl

emptied_of : (key : Key) (s : Slot) → is_of key (Some s) ≡ true → emptied key (Some s) ≡ None
emptied_of key s is = rw is refl

-- a slot that is emptied leaves what emptying it at first would have left
emptied_after : (slots : List (Option Slot)) (key : Key) (place : ℕ) (old new : Slot) → slice_get slots place ≡ Some (Some old) → is_of key (Some old) ≡ true → new.key ≡ old.key
    → map (emptied key) (set slots place (Some new)) ≡ map (emptied key) slots
emptied_after slots key place old new there is same =
    let is_new : is_of key (Some new) ≡ true = rw same is in
    let at : get_or slots place None ≡ Some old = get_or_from_slice_get slots place (Some old) None there in
    let before : get_or (map (emptied key) slots) place None ≡ None = mapped_at slots place at in
    map-set (emptied key) slots place (Some new) ∙ ap (set (map (emptied key) slots) place) (emptied_of key new is_new ∙ sym before) ∙ set-get_or (map (emptied key) slots) place None
  where
    mapped_at : (xs : List (Option Slot)) (i : ℕ) → get_or xs i None ≡ Some old → get_or (map (emptied key) xs) i None ≡ None
    mapped_at [] i e = refl
    mapped_at (x ∷ xs) zero e = ap (emptied key) e ∙ emptied_of key old is
    mapped_at (x ∷ xs) (suc i) e = mapped_at xs i e

-- ---- joining in one place

pub waits_join : (slots after : List (Option Slot)) (now : ℕ) (key : Key) (place : ℕ) (f : FragmentValue) → end_of f ≤ 512 → position (is_of key) slots ≡ Some place → JoinsAt slots place f waiting after → Joins slots now key f waiting after
waits_join slots after now key place f fits found at = by_slot at.old at.new at.there at.joins at.after_is
  where
    by_slot : (old new : Slot) → slice_get slots place ≡ Some (Some old) → JoinsSlot old f waiting new → after ≡ set slots place (Some new) → Joins slots now key f waiting after
    by_slot old _ there (unfinished agrees not) same = subst (Joins slots now key f waiting) (sym same) (waits place old fits found there agrees not)

-- where it is done, the key's slot is emptied
pub done_join : (slots mid after : List (Option Slot)) (now : ℕ) (key : Key) (place : ℕ) (f : FragmentValue) (outcome : JoinedValue) → end_of f ≤ 512 → position (is_of key) slots ≡ Some place → JoinsAt slots place f outcome mid
    → (outcome ≡ waiting → ⊥) → after ≡ map (emptied key) mid → Joins slots now key f outcome after
done_join slots mid after now key place f outcome fits found at done same = by_slot at.old at.new outcome at.there at.joins done (same ∙ ap (map (emptied key)) at.after_is)
  where
    by_case : (old new : Slot) (outcome : JoinedValue) → slice_get slots place ≡ Some (Some old) → JoinsSlot old f outcome new → (outcome ≡ waiting → ⊥) → Joins slots now key f outcome (map (emptied key) slots)
    by_case old _ _ there (disagrees not) done = conflicts place old fits found there not
    by_case old _ _ there (unfinished agrees not) done = absurd (done refl)
    by_case old _ _ there (finished names payload agrees is) done = completes place old names payload fits found there agrees is

    by_slot : (old new : Slot) (outcome : JoinedValue) → slice_get slots place ≡ Some (Some old) → JoinsSlot old f outcome new → (outcome ≡ waiting → ⊥) → after ≡ map (emptied key) (set slots place (Some new)) → Joins slots now key f outcome after
    by_slot old new outcome there joins done same =
        let is : is_of key (Some old) ≡ true = subst (λ (slot : Option Slot). is_of key slot ≡ true) (get_or_from_slice_get slots place (Some old) None there) (position-Some (is_of key) slots place None found).1 in
        let left : after ≡ map (emptied key) slots = same ∙ emptied_after slots key place old new there is (same_key old new f outcome joins) in
        subst (Joins slots now key f outcome) (sym left) (by_case old new outcome there joins done)

pub join_at_room : (slots after : List (Option Slot)) (place : ℕ) (f : FragmentValue) (outcome : JoinedValue) → end_of f ≤ 512 → All HasRoom slots → JoinsAt slots place f outcome after → All HasRoom after
join_at_room slots after place f outcome fits rooms at =
    let old_room : HasRoom (Some at.old) = subst HasRoom (get_or_from_slice_get slots place (Some at.old) None at.there) (All-get_or HasRoom slots place None (slice_get_within slots place (Some at.old) at.there) rooms) in
    subst (All HasRoom) (sym at.after_is) (All-set HasRoom slots place (Some at.new) (new_room at.old at.new outcome at.joins old_room) rooms)
  where
    new_room : (old new : Slot) (outcome : JoinedValue) → JoinsSlot old f outcome new → HasRoom (Some old) → HasRoom (Some new)
    new_room old _ _ (disagrees not) room = room
    new_room old _ _ (unfinished agrees not) room = joined_room f old fits room
    new_room old _ _ (finished names payload agrees is) room = joined_room f old fits room

-- what is not `Waiting` doesn't mean it
pub not_waiting : (step : Step) (room : Reassembly) → (step ≡ results.Waiting → ⊥) → led_to step room ≡ waiting → ⊥
not_waiting results.Waiting room not e = not refl
not_waiting _ room not e = absurd cc

-- slots that are all free
pub all_free : (slots : List (Option Slot)) (n : ℕ) → length slots ≡ n → All (λ slot. slot ≡ None) slots → slots ≡ replicate n None
all_free slots n count free =
    same_lists slots (replicate n None) (count ∙ sym (length-replicate {A = Option Slot} n None)) (λ k d within. free k d within ∙ sym (get_or-replicate {A = Option Slot} n k None d (omega (arith, count))))
