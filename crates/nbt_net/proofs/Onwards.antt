-- By which clock a server goes on, and the last time of a file.
use Rattle.std.proofs.Common.{◌≡◌, ◌∙◌, ℕ, ◌+◌, ◌≤◌, ◌⊎◌, max, nat_eq, not, Bool, true, false, List, [], ◌∷◌, Result, Ok, Err, if◌then◌else◌, refl, sym, ap, subst, inl, inr, arith}
use Rattle.std.specs.Prelude.{nat_le, ◌&&◌}
use Rattle.std.specs.Str.{bytes_eq}
use Rattle.std.proofs.lemmas.Bool.{and_parts, leb-true}
use Rattle.nbt_lease.specs.Config.{ConfigValue, last_moment}
use Rattle.nbt_store.specs.Changes.{at_of, last_of}
use Rattle.nbt_store.specs.Silence.{bears_out, by_form, by_new_clock, by_other_clock, by_same_clock, can_be_told, going_on, has_sound_times, is_same_clock, unseen}
use Rattle.nbt_store.specs.Times.{times_after, times_after_all}
use Rattle.nbt_store.specs.declared.change.Change.{Change}
use Rattle.nbt_store.specs.declared.change.Change.TheVariants.{Began, Moved, Released, Reached, Looked}
use Rattle.nbt_store.specs.declared.form.Form.{Form}
use Rattle.nbt_store.specs.declared.form.Form.TheVariants.{Two, Three}
use Rattle.nbt_store.specs.declared.header.Header.{Header}
use Rattle.nbt_store.specs.declared.silence.Onward.{Onward}
use Rattle.nbt_store.specs.declared.silence.Seen.{Seen}
use Rattle.nbt_store.specs.declared.silence.Silence.TheVariants as why
use Rattle.nbt_store.specs.declared.times.Times.{Times}

-- ---- the last time

last_after : (change : Change) (times : Times) → (times_after change times).last ≡ max times.last (at_of change)
last_after (Began name lease at) times = refl
last_after (Moved name addr end at) times = refl
last_after (Released name addr at) times = refl
last_after (Reached at) times = refl
last_after (Looked day at) times = refl

pub times_last : (changes : List Change) (times : Times) → (times_after_all changes times).last ≡ last_of times.last changes
times_last [] times = refl
times_last (change ∷ changes) times = times_last changes (times_after change times) ∙ ap (λ (n : ℕ). last_of n changes) (last_after change times)

-- ---- which clock it is

-- what holds of the clock, with the second of another clock
pub record IsClock (times : Times) (seen : Seen) (o : Onward) : Type 0 where
  pub later : times.last + o.shift ≤ o.reads
  pub serves : o.reads ≤ o.serves
  pub shift : o.shift ≤ o.serves
  pub told : o.serves ≤ last_moment
  pub machine : o.reads ≡ seen.monotonic + o.ahead

passed_over : {A E : Type 0} (test : Bool) (e : E) (rest : Result A E) (x : A) → (if test then Err e else rest) ≡ Ok x → (test ≡ false) × (rest ≡ Ok x)
passed_over true e rest x is = absurd cc
passed_over false e rest x is = (refl, is)

taken_or : {A E : Type 0} (test : Bool) (y : A) (rest : Result A E) (x : A) → (if test then Ok y else rest) ≡ Ok x → ((test ≡ true) × (x ≡ y)) ⊎ (rest ≡ Ok x)
taken_or true y rest x is = inl (refl, cc)
taken_or false y rest x is = inr is

is_so : (test : Bool) → not test ≡ false → test ≡ true
is_so true is = refl
is_so false is = absurd cc

by_either_form : (form : Form) (h : Header) (times : Times) (seen : Seen) (o : Onward) → by_form form h times seen ≡ Ok o → o ≡ by_new_clock h times seen
by_either_form Two h times seen o is = absurd cc
by_either_form Three h times seen o is = cc

other_clock : (form : Form) (h : Header) (times : Times) (seen : Seen) (silent : Bool) (o : Onward) → by_other_clock form h times seen silent ≡ Ok o → o ≡ by_new_clock h times seen
other_clock form h times seen silent o is =
    let one = passed_over (silent && not (bytes_eq h.boot seen.boot.now)) why.OtherBoot (if silent then Err why.Apart else by_form form h times seen) o is in
    let two = passed_over silent why.Apart (by_form form h times seen) o one.1 in
    by_either_form form h times seen o two.1

same_or_other : (form : Form) (h : Header) (times : Times) (seen : Seen) (silent : Bool) (o : Onward) → ((is_same_clock h times seen ≡ true) × (o ≡ by_same_clock h times seen)) ⊎ (by_other_clock form h times seen silent ≡ Ok o)
    → ((is_same_clock h times seen ≡ true) × (o ≡ by_same_clock h times seen)) ⊎ (o ≡ by_new_clock h times seen)
same_or_other form h times seen silent o (inl same) = inl same
same_or_other form h times seen silent o (inr other) = inr (other_clock form h times seen silent o other)

pub which_clock : (form : Form) (h : Header) (times : Times) (config : ConfigValue) (seen : Seen) (silent : Bool) (o : Onward) → going_on form h times config seen silent ≡ Ok o
    → (has_sound_times h times seen ≡ true) × (((is_same_clock h times seen ≡ true) × (o ≡ by_same_clock h times seen)) ⊎ (o ≡ by_new_clock h times seen))
which_clock form h times config seen silent o is =
    let life = passed_over (not (nat_eq h.life config.life)) _ _ o is in
    let longest = passed_over (not (nat_eq h.longest config.longest)) _ _ o life.1 in
    let rows = passed_over (not (nat_le h.rows config.rows)) _ _ o longest.1 in
    let sound = passed_over (not (has_sound_times h times seen)) _ _ o rows.1 in
    (is_so (has_sound_times h times seen) sound.0, same_or_other form h times seen silent o (taken_or (is_same_clock h times seen) (by_same_clock h times seen) (by_other_clock form h times seen silent) o sound.1))

same_is_clock : (h : Header) (times : Times) (seen : Seen) → is_same_clock h times seen ≡ true → IsClock times seen (by_same_clock h times seen)
same_is_clock h times seen same =
    let reads = seen.monotonic + h.ahead in
    let halves = and_parts (bytes_eq h.boot seen.boot.now && nat_le times.last reads) (nat_le reads last_moment && bears_out times.seen times.day reads seen.day) same in
    let later = leb-true times.last reads (and_parts (bytes_eq h.boot seen.boot.now) (nat_le times.last reads) halves.0).1 in
    let told = leb-true reads last_moment (and_parts (nat_le reads last_moment) (bears_out times.seen times.day reads seen.day) halves.1).0 in
    record { later = omega (arith, later); serves = omega arith; shift = omega arith; told = told; machine = refl }

new_is_clock : (h : Header) (times : Times) (seen : Seen) → has_sound_times h times seen ≡ true → IsClock times seen (by_new_clock h times seen)
new_is_clock h times seen sound =
    let halves = and_parts (nat_le h.start times.last && nat_le times.seen times.last) (can_be_told h times seen) sound in
    let parts = and_parts (nat_le (times.last + unseen) last_moment) (nat_le h.ahead last_moment && nat_le (seen.monotonic + unseen) last_moment) halves.1 in
    let last = leb-true (times.last + unseen) last_moment parts.0 in
    let now = leb-true (seen.monotonic + unseen) last_moment (and_parts (nat_le h.ahead last_moment) (nat_le (seen.monotonic + unseen) last_moment) parts.1).1 in
    record { later = omega arith; serves = omega arith; shift = omega arith; told = omega (arith, last, now); machine = omega arith }

-- It is a clock, and serves from no earlier than any time at which the one that kept the file may have served: that of its own boot where
-- it hasn't gone back, and any other after a second.
pub is_clock : (h : Header) (times : Times) (config : ConfigValue) (seen : Seen) (silent : Bool) (o : Onward) (was : ℕ)
    → ((h : Header) (times : Times) (seen : Seen) (was : ℕ) → was ≤ times.last + unseen → was + (by_new_clock h times seen).shift ≤ (by_new_clock h times seen).serves)
    → going_on Three h times config seen silent ≡ Ok o → was ≤ times.last + unseen → (is_same_clock h times seen ≡ true → was ≤ o.serves) → IsClock times seen o × (was + o.shift ≤ o.serves)
is_clock h times config seen silent o was served is soon steady = let which = which_clock Three h times config seen silent o is in by_which which.1 which.0
  where
    by_which : ((is_same_clock h times seen ≡ true) × (o ≡ by_same_clock h times seen)) ⊎ (o ≡ by_new_clock h times seen) → has_sound_times h times seen ≡ true → IsClock times seen o × (was + o.shift ≤ o.serves)
    by_which (inl same) sound =
        let no_later = steady same.0 in
        let unshifted : o.shift ≡ 0 = ap (λ (x : Onward). x.shift) same.1 in
        (subst (IsClock times seen) (sym same.1) (same_is_clock h times seen same.0), omega (arith, no_later, unshifted))
    by_which (inr new) sound = (subst (IsClock times seen) (sym new) (new_is_clock h times seen sound), subst (λ (x : Onward). was + x.shift ≤ x.serves) (sym new) (served h times seen was soon))

-- it serves no more than a second after what it reads
pub serves_soon : (form : Form) (h : Header) (times : Times) (config : ConfigValue) (seen : Seen) (silent : Bool) (o : Onward) → going_on form h times config seen silent ≡ Ok o → o.serves ≤ o.reads + unseen
serves_soon form h times config seen silent o is = by (which_clock form h times config seen silent o is).1
  where
    by : ((is_same_clock h times seen ≡ true) × (o ≡ by_same_clock h times seen)) ⊎ (o ≡ by_new_clock h times seen) → o.serves ≤ o.reads + unseen
    by (inl same) = subst (λ (x : Onward). x.serves ≤ x.reads + unseen) (sym same.1) (omega arith)
    by (inr new) = subst (λ (x : Onward). x.serves ≤ x.reads + unseen) (sym new) (omega arith)
