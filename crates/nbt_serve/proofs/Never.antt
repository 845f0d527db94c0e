-- A reply that waits for nothing.
use Rattle.std.proofs.Common.{◌≡◌, Bool, true, false, not, List, [], ◌∷◌, ◌++◌, refl, sym, ap, subst, ◌∙◌, Option, Some, None}
use Rattle.std.specs.List.{flat_map}
use Rattle.std.specs.Prelude.{◌↔◌, IsTrue}
use Rattle.std.proofs.lemmas.Bool.{false≢true}
use Rattle.nbt_name.specs.Wire.{NameValue}
use Rattle.nbt_store.specs.declared.change.Change.{Change}
use Rattle.nbt_store.specs.Calls.{StoreCall}
use Rattle.nbt_serve.specs.Serving.{Turn, moments_in}
use Rattle.nbt_serve.specs.Waiting.{ReplyValue, WaitingValue, IsAbout, IsClear, lay_down, laid_down}
use Rattle.nbt_serve.specs.Turning.{Took, RestsOnNothing, all_stands, of_no_change, GoesAhead, IsAhead, goes_ahead, waits, with_lines, with_any, before_it, behind_it, reached, asked_for, appends_of, stores}
use Rattle.nbt_serve.specs.Inner.Passing.{is_any, IsFree, is_clear, is_other, GoesFirst, IsFirst, is_first, is_not_first}

none_laid : (lines : List Change) (more : List StoreCall) → flat_map lay_down lines ++ more ≡ [] → lines ≡ []
none_laid [] more none = refl
none_laid (line ∷ lines) more none = absurd cc

none_made : (lines : List Change) (change : Option Change) → flat_map lay_down lines ++ appends_of change ≡ [] → change ≡ None
none_made [] None none = refl
none_made [] (Some change) none = absurd cc
none_made (line ∷ lines) change none = absurd cc

-- what the lines before a turn are
abbrev lines_of : Turn → WaitingValue → List Change
lines_of turn w = reached w.durable (moments_in turn)

-- ---- the store has nothing to do in a turn

pub change_none : (t : Took) (w : WaitingValue) → stores t w ≡ [] → t.change ≡ None
change_none t w none = none_made (lines_of t.turn w) t.change none

pub before_same : (t : Took) (w : WaitingValue) → stores t w ≡ [] → before_it t.turn w ≡ w
before_same t w none = ap (λ (ls : List Change). with_lines ls w) (none_laid (lines_of t.turn w) (appends_of t.change) none)

pub behind_same : (t : Took) (w : WaitingValue) → stores t w ≡ [] → behind_it t w ≡ w
behind_same t w none = ap (λ (c : Option Change). with_any c (before_it t.turn w)) (change_none t w none) ∙ before_same t w none

-- ---- no reply comes or goes

lines_leave : (lines : List Change) (w : WaitingValue) → (with_lines lines w).replies ≡ w.replies
lines_leave [] w = refl
lines_leave (line ∷ lines) w = lines_leave lines (laid_down line w)

any_leaves : (change : Option Change) (w : WaitingValue) → (with_any change w).replies ≡ w.replies
any_leaves None w = refl
any_leaves (Some change) w = refl

pub replies_stay : (t : Took) (w : WaitingValue) → (behind_it t w).replies ≡ w.replies
replies_stay t w = any_leaves t.change (before_it t.turn w) ∙ lines_leave (lines_of t.turn w) w

-- ---- by what the code looks at

not_about : (b : Bool) (name other : NameValue) (w : WaitingValue) → other ≡ name → (IsTrue b ↔ IsAbout name w.replies) → ¬ IsAbout other w.replies → not b ≡ true
not_about true name other w same is none = absurd (none (subst (λ (n : NameValue). IsAbout n w.replies) (sym same) (is.0 refl)))
not_about false name other w same is none = refl

free_of : (asked : Option NameValue) (w : WaitingValue) (name : NameValue) (clear b : Bool) → clear ≡ false → (IsTrue clear ↔ IsClear w) → asked ≡ Some name → (IsTrue b ↔ IsAbout name w.replies) → IsFree asked w → not b ≡ true
free_of asked w name clear b unclear is named about (is_clear c) = absurd (false≢true (sym unclear ∙ is.1 c))
free_of asked w name clear b unclear is named about (is_other other e none) = let both : Some other ≡ Some name = sym e ∙ named in let same : other ≡ name = cc in not_about b name other w same about none

-- it isn't so that something waits, and a reply about the name of a query waits or doesn't
pub free_by : (asked : Option NameValue) (w : WaitingValue) (name : NameValue) (clear b : Bool) → clear ≡ false → (IsTrue clear ↔ IsClear w) → asked ≡ Some name → (IsTrue b ↔ IsAbout name w.replies) → IsTrue (not b) ↔ IsFree asked w
free_by asked w name clear b unclear is named about =
    ((λ free. is_other name named (λ a. false≢true (sym (ap not (about.1 a)) ∙ free))), (λ free. free_of asked w name clear b unclear is named about free))

-- whether the reply goes ahead
pub first_by : (synced ahead : Bool) (asked : Option NameValue) (w : WaitingValue) → (IsTrue ahead ↔ GoesFirst synced asked w) → IsFirst synced asked w ahead
first_by synced true asked w is = is_first (is.0 refl)
first_by synced false asked w is = is_not_first (λ goes. false≢true (is.1 goes))

no_lines_so : (lines : List Change) → is_any lines ≡ false → lines ≡ []
no_lines_so [] none = refl
no_lines_so (line ∷ lines) none = absurd cc

clear_before : (change : Option Change) (w : WaitingValue) → IsClear (with_any change w) → IsClear w × (change ≡ None)
clear_before None w clear = (clear, refl)
clear_before (Some change) w clear = let none = ap (λ (v : WaitingValue). v.unsynced) clear in absurd cc

module _ (t : Took) (w : WaitingValue) (synced : Bool) (asked : Option NameValue) (synced_is : synced ≡ is_any (lines_of t.turn w)) (asked_is : asked_for t.turn ≡ asked) (quiet : (name : NameValue) → asked ≡ Some name → t.change ≡ None) where
  none_stored : synced ≡ false → t.change ≡ None → stores t w ≡ []
  none_stored not none =
      ap (λ (ls : List Change). flat_map lay_down ls ++ appends_of t.change) (no_lines_so (lines_of t.turn w) (sym synced_is ∙ not)) ∙ ap appends_of none

  freed : synced ≡ false → IsFree asked (behind_it t w) → GoesAhead t w
  freed not (is_clear clear) =
      let before = clear_before t.change (before_it t.turn w) clear in
      let none = none_stored not before.1 in
      (none, all_stands (subst IsClear (before_same t w none) before.0))
  freed not (is_other name named other) =
      (none_stored not (quiet name named), of_no_change name (asked_is ∙ named) (subst (λ (rs : List ReplyValue). ¬ IsAbout name rs) (replies_stay t w) other))

  bound : stores t w ≡ [] → RestsOnNothing t.turn w → IsFree asked (behind_it t w)
  bound none (all_stands clear) = is_clear (subst IsClear (sym (behind_same t w none)) clear)
  bound none (of_no_change name named other) = is_other name (sym asked_is ∙ named) (subst (λ (rs : List ReplyValue). ¬ IsAbout name rs) (sym (replies_stay t w)) other)

  first_to : GoesAhead t w → GoesFirst synced asked (behind_it t w)
  first_to a = (synced_is ∙ ap is_any (none_laid (lines_of t.turn w) (appends_of t.change) a.0), bound a.0 a.1)

  pub ahead_from : GoesFirst synced asked (behind_it t w) → GoesAhead t w
  ahead_from f = freed f.0 f.1

  pub is_ahead : (ahead : Bool) → IsFirst synced asked (behind_it t w) ahead → IsAhead t w ahead
  is_ahead _ (is_first f) = goes_ahead (ahead_from f)
  is_ahead _ (is_not_first not) = waits (λ a. not (first_to a))
