-- What a packet does to a joiner is determined.
use Rattle.std.proofs.Common.{◌≡◌, ℕ, ◌<◌, ◌≤◌, true, false, List, [], ◌∷◌, length, map, take, Option, Some, None, refl, sym, ap, subst, ◌∙◌, arith}
use Rattle.std.specs.Prelude.{slice_set, slice_get}
use Rattle.std.specs.List.{position}
use Rattle.nbt_dgram.specs.declared.dgram.Names.{Names}
use Rattle.nbt_dgram.specs.declared.dgram.Part.TheVariants.{First}
use Rattle.nbt_dgram.specs.declared.joined.Dropped.TheVariants as reasons
use Rattle.nbt_dgram.specs.declared.slot.Key.{Key}
use Rattle.nbt_dgram.specs.declared.slot.Slot.{Slot}
use Rattle.nbt_dgram.specs.Dgram.{FragmentValue, BodyValue, fragment, DgramValue}
use Rattle.nbt_dgram.specs.Fragments.{end_of}
use Rattle.nbt_dgram.specs.Slot.{fresh, Agrees, joined, IsWhole}
use Rattle.nbt_dgram.specs.Joiner.{JoinedValue, whole, waiting, dropped, is_of, is_free, emptied, Joins, too_long, no_room, begins, conflicts, waits, completes, JoinerValue, joiner_of, key_of, kept, Puts, clock_back, alone, joins}

-- ---- equal parts of equal things

pub one_fragment : (b : BodyValue) (f g : FragmentValue) → b ≡ fragment f → b ≡ fragment g → f ≡ g
one_fragment b f g x y = let e : fragment f ≡ fragment g = sym x ∙ y in cc

same_some : {X : Type 0} (x y : X) (o : Option X) → o ≡ Some x → o ≡ Some y → x ≡ y
same_some x y o a b = let e : ◌≡◌ (Some x) (Some y) = sym a ∙ b in cc

not_both : {X : Type 0} (x : X) (o : Option X) → o ≡ None → o ≡ Some x → ⊥
not_both x o a b = let e : ◌≡◌ None (Some x) = sym a ∙ b in cc

map_some_injective : (xs ys : List ℕ) → map Some xs ≡ map Some ys → xs ≡ ys
map_some_injective [] [] e = refl
map_some_injective [] (y ∷ ys) e = absurd cc
map_some_injective (x ∷ xs) [] e = absurd cc
map_some_injective (x ∷ xs) (y ∷ ys) e =
    let head : x ≡ y = cc in
    let tail : map Some xs ≡ map Some ys = cc in
    let rest : xs ≡ ys = map_some_injective xs ys tail in cc

one_whole_slot : (s : Slot) (n m : Names) (a b : List ℕ) → IsWhole s n a → IsWhole s m b → (n ≡ m) × (a ≡ b)
one_whole_slot s n m a b x y =
    let size : length a ≡ length b = same_some (length a) (length b) s.end x.end_known y.end_known in
    (same_some n m s.names x.names_known y.names_known, map_some_injective a b (sym x.filled ∙ ap (λ (k : ℕ). take k s.octets) size ∙ y.filled))

-- ---- a fragment

module _ (slots : List (Option Slot)) (now : ℕ) (key : Key) (f : FragmentValue) where
  -- the slot that is found
  one_place : (p q : ℕ) → position (is_of key) slots ≡ Some p → position (is_of key) slots ≡ Some q → p ≡ q
  one_place p q = same_some p q (position (is_of key) slots)

  one_slot : (p q : ℕ) (s t : Slot) → p ≡ q → slice_get slots p ≡ Some (Some s) → slice_get slots q ≡ Some (Some t) → s ≡ t
  one_slot p q s t e x y =
      let same : ◌≡◌ {A = Option Slot} (Some s) (Some t) = same_some (Some s) (Some t) (slice_get slots p) x (ap (slice_get slots) e ∙ y) in cc

  long : (k : JoinedValue) (b : List (Option Slot)) → 512 < end_of f → Joins slots now key f k b → (dropped reasons.TooLong ≡ k) × (map (emptied key) slots ≡ b)
  long _ _ above (too_long same) = (refl, refl)
  long _ _ above (no_room fits new full) = absurd (omega (arith, above, fits))
  long _ _ above (begins place fits new free) = absurd (omega (arith, above, fits))
  long _ _ above (conflicts place s fits found there not) = absurd (omega (arith, above, fits))
  long _ _ above (waits place s fits found there agrees not) = absurd (omega (arith, above, fits))
  long _ _ above (completes place s names payload fits found there agrees is) = absurd (omega (arith, above, fits))

  full_is : (k : JoinedValue) (b : List (Option Slot)) → end_of f ≤ 512 → position (is_of key) slots ≡ None → position is_free slots ≡ None → Joins slots now key f k b → (dropped reasons.Full ≡ k) × (slots ≡ b)
  full_is _ _ fits new full (too_long above) = absurd (omega (arith, above, fits))
  full_is _ _ fits new full (no_room _ _ _) = (refl, refl)
  full_is _ _ fits new full (begins place _ _ free) = absurd (not_both place (position is_free slots) full free)
  full_is _ _ fits new full (conflicts place s _ found there not) = absurd (not_both place (position (is_of key) slots) new found)
  full_is _ _ fits new full (waits place s _ found there agrees not) = absurd (not_both place (position (is_of key) slots) new found)
  full_is _ _ fits new full (completes place s names payload _ found there agrees is) = absurd (not_both place (position (is_of key) slots) new found)

  begun_is : (p : ℕ) (k : JoinedValue) (b : List (Option Slot)) → end_of f ≤ 512 → position (is_of key) slots ≡ None → position is_free slots ≡ Some p → Joins slots now key f k b
      → (waiting ≡ k) × (slice_set slots p (Some (joined f (fresh key now f.delivery))) ≡ b)
  begun_is p _ _ fits new free (too_long above) = absurd (omega (arith, above, fits))
  begun_is p _ _ fits new free (no_room _ _ full) = absurd (not_both p (position is_free slots) full free)
  begun_is p _ _ fits new free (begins place _ _ other) = (refl, ap (λ (k : ℕ). slice_set slots k (Some (joined f (fresh key now f.delivery)))) (same_some p place (position is_free slots) free other))
  begun_is p _ _ fits new free (conflicts place s _ found there not) = absurd (not_both place (position (is_of key) slots) new found)
  begun_is p _ _ fits new free (waits place s _ found there agrees not) = absurd (not_both place (position (is_of key) slots) new found)
  begun_is p _ _ fits new free (completes place s names payload _ found there agrees is) = absurd (not_both place (position (is_of key) slots) new found)

  conflict_is : (p : ℕ) (s : Slot) (k : JoinedValue) (b : List (Option Slot)) → end_of f ≤ 512 → position (is_of key) slots ≡ Some p → slice_get slots p ≡ Some (Some s) → ¬ Agrees s f → Joins slots now key f k b
      → (dropped reasons.Conflict ≡ k) × (map (emptied key) slots ≡ b)
  conflict_is p s _ _ fits at is not (too_long above) = absurd (omega (arith, above, fits))
  conflict_is p s _ _ fits at is not (no_room _ new _) = absurd (not_both p (position (is_of key) slots) new at)
  conflict_is p s _ _ fits at is not (begins place _ new _) = absurd (not_both p (position (is_of key) slots) new at)
  conflict_is p s _ _ fits at is not (conflicts place t _ found there _) = (refl, refl)
  conflict_is p s _ _ fits at is not (waits place t _ found there agrees _) = absurd (not (subst (λ (u : Slot). Agrees u f) (sym (one_slot p place s t (one_place p place at found) is there)) agrees))
  conflict_is p s _ _ fits at is not (completes place t names payload _ found there agrees _) = absurd (not (subst (λ (u : Slot). Agrees u f) (sym (one_slot p place s t (one_place p place at found) is there)) agrees))

  wait_is : (p : ℕ) (s : Slot) (k : JoinedValue) (b : List (Option Slot)) → end_of f ≤ 512 → position (is_of key) slots ≡ Some p → slice_get slots p ≡ Some (Some s) → Agrees s f
      → ((names : Names) (payload : List ℕ) → ¬ IsWhole (joined f s) names payload) → Joins slots now key f k b → (waiting ≡ k) × (slice_set slots p (Some (joined f s)) ≡ b)
  wait_is p s _ _ fits at is agrees unfinished (too_long above) = absurd (omega (arith, above, fits))
  wait_is p s _ _ fits at is agrees unfinished (no_room _ new _) = absurd (not_both p (position (is_of key) slots) new at)
  wait_is p s _ _ fits at is agrees unfinished (begins place _ new _) = absurd (not_both p (position (is_of key) slots) new at)
  wait_is p s _ _ fits at is agrees unfinished (conflicts place t _ found there not) = absurd (not (subst (λ (u : Slot). Agrees u f) (one_slot p place s t (one_place p place at found) is there) agrees))
  wait_is p s _ _ fits at is agrees unfinished (waits place t _ found there _ _) =
      let e : p ≡ place = one_place p place at found in
      let d : s ≡ t = one_slot p place s t e is there in
      (refl, λ i. slice_set slots (e i) (Some (joined f (d i))))
  wait_is p s _ _ fits at is agrees unfinished (completes place t names payload _ found there _ finished) =
      absurd (unfinished names payload (subst (λ (u : Slot). IsWhole (joined f u) names payload) (sym (one_slot p place s t (one_place p place at found) is there)) finished))

  whole_is : (p : ℕ) (s : Slot) (n : Names) (x : List ℕ) (k : JoinedValue) (b : List (Option Slot)) → end_of f ≤ 512 → position (is_of key) slots ≡ Some p → slice_get slots p ≡ Some (Some s) → Agrees s f
      → IsWhole (joined f s) n x → Joins slots now key f k b → (whole n x ≡ k) × (map (emptied key) slots ≡ b)
  whole_is p s n x _ _ fits at is agrees finished (too_long above) = absurd (omega (arith, above, fits))
  whole_is p s n x _ _ fits at is agrees finished (no_room _ new _) = absurd (not_both p (position (is_of key) slots) new at)
  whole_is p s n x _ _ fits at is agrees finished (begins place _ new _) = absurd (not_both p (position (is_of key) slots) new at)
  whole_is p s n x _ _ fits at is agrees finished (conflicts place t _ found there not) = absurd (not (subst (λ (u : Slot). Agrees u f) (one_slot p place s t (one_place p place at found) is there) agrees))
  whole_is p s n x _ _ fits at is agrees finished (waits place t _ found there _ unfinished) =
      absurd (unfinished n x (subst (λ (u : Slot). IsWhole (joined f u) n x) (one_slot p place s t (one_place p place at found) is there) finished))
  whole_is p s n x _ _ fits at is agrees finished (completes place t names payload _ found there _ other) =
      let d : s ≡ t = one_slot p place s t (one_place p place at found) is there in
      let same = one_whole_slot (joined f s) n names x payload finished (subst (λ (u : Slot). IsWhole (joined f u) names payload) (sym d) other) in
      (λ i. whole (same.0 i) (same.1 i), refl)

  one_join : (j k : JoinedValue) (a b : List (Option Slot)) → Joins slots now key f j a → Joins slots now key f k b → (j ≡ k) × (a ≡ b)
  one_join _ k _ b (too_long above) y = long k b above y
  one_join _ k _ b (no_room fits new full) y = full_is k b fits new full y
  one_join _ k _ b (begins place fits new free) y = begun_is place k b fits new free y
  one_join _ k _ b (conflicts place s fits found there not) y = conflict_is place s k b fits found there not y
  one_join _ k _ b (waits place s fits found there agrees not) y = wait_is place s k b fits found there agrees not y
  one_join _ k _ b (completes place s names payload fits found there agrees is) y = whole_is place s names payload k b fits found there agrees is y

-- ---- a packet

module _ (old : JoinerValue) (now : ℕ) (d : DgramValue) where
  back_is : (k : JoinedValue) (y : JoinerValue) → now < old.last → Puts old now d k y → (dropped reasons.ClockBack ≡ k) × (old ≡ y)
  back_is _ _ before (clock_back _) = (refl, refl)
  back_is _ _ before (alone f names later is part more) = absurd (omega (arith, before, later))
  back_is _ _ before (joins f outcome slots later is not does) = absurd (omega (arith, before, later))

  alone_is : (f : FragmentValue) (n : Names) (k : JoinedValue) (y : JoinerValue) → old.last ≤ now → d.body ≡ fragment f → f.part ≡ First n → f.more ≡ false → Puts old now d k y
      → (whole n f.payload ≡ k) × (joiner_of now (map (kept now) old.slots) ≡ y)
  alone_is f n _ _ later body part last (clock_back before) = absurd (omega (arith, before, later))
  alone_is f n _ _ later body part last (alone g names _ other first _) =
      let same : f ≡ g = one_fragment d.body f g body other in
      let named : n ≡ names = (let e : First n ≡ First names = sym part ∙ ap (λ (h : FragmentValue). h.part) same ∙ first in cc) in
      (λ i. whole (named i) (same i).payload, refl)
  alone_is f n _ _ later body part last (joins g outcome slots _ other not does) =
      let same : f ≡ g = one_fragment d.body f g body other in
      let more : g.more ≡ true = not n (sym (ap (λ (h : FragmentValue). h.part) same) ∙ part) in
      absurd (let e : true ≡ false = sym more ∙ sym (ap (λ (h : FragmentValue). h.more) same) ∙ last in cc)

  join_is : (f : FragmentValue) (j : JoinedValue) (a : List (Option Slot)) (k : JoinedValue) (y : JoinerValue) → old.last ≤ now → d.body ≡ fragment f → ((names : Names) → f.part ≡ First names → f.more ≡ true)
      → Joins (map (kept now) old.slots) now (key_of d) f j a → Puts old now d k y → (j ≡ k) × (joiner_of now a ≡ y)
  join_is f j a _ _ later body not does (clock_back before) = absurd (omega (arith, before, later))
  join_is f j a _ _ later body not does (alone g names _ other first last) =
      let same : f ≡ g = one_fragment d.body f g body other in
      let more : f.more ≡ true = not names (ap (λ (h : FragmentValue). h.part) same ∙ first) in
      absurd (let e : true ≡ false = sym more ∙ ap (λ (h : FragmentValue). h.more) same ∙ last in cc)
  join_is f j a _ _ later body not does (joins g outcome slots _ other _ also) =
      let same : f ≡ g = one_fragment d.body f g body other in
      let one = one_join (map (kept now) old.slots) now (key_of d) f j outcome a slots does
      (subst (λ (h : FragmentValue). Joins (map (kept now) old.slots) now (key_of d) h outcome slots) (sym same) also) in
      (one.0, ap (joiner_of now) one.1)

  pub one_put : (j k : JoinedValue) (x y : JoinerValue) → Puts old now d j x → Puts old now d k y → (j ≡ k) × (x ≡ y)
  one_put _ k _ y (clock_back before) other = back_is k y before other
  one_put _ k _ y (alone f names later is part last) other = alone_is f names k y later is part last other
  one_put _ k _ y (joins f outcome slots later is not does) other = join_is f outcome slots k y later is not does other
