-- A script line by line: what its lines have printed so far, and what is left.
use Rattle.std.proofs.Common.{◌≡◌, ◌≢◌, ℕ, ◌+◌, List, [], ◌∷◌, ◌++◌, Bool, true, false, Option, refl, append_assoc, codes}
use Rattle.std.proofs.lemmas.List.{append-nil}
use Rattle.nbt_text.specs.Lines.{verdict_line}
use Rattle.nbt_world.specs.World.{WorldValue}
use Rattle.nbt_sim.specs.declared.script.Played.{Played}
use Rattle.nbt_sim.specs.declared.script.Played.TheVariants as played
use Rattle.nbt_sim.specs.Script.{Plays, ends, passes_over, does, stops, PlaysLine, is_blank, is_done, is_unreadable}

-- what the lines that are left print completes what all print
abbrev pub Continues : (start : Option WorldValue) (number : ℕ) (world : Option WorldValue) (left all : List (List ℕ)) (text : List ℕ) → Type 0
Continues start number world left all text = (well : Bool) (more : List ℕ) → Plays number world left well more → Plays 1 start all well (text ++ more)

pub after_line : {start : Option WorldValue} (number : ℕ) (world next : Option WorldValue) (first : List ℕ) (rest all : List (List ℕ)) (text told : List ℕ) (came : Played) → Continues start number world (first ∷ rest) all text → PlaysLine world first came next told → came ≢ played.Unreadable
    → Continues start (number + 1) next rest all (text ++ told)
after_line number world _ first rest all text _ _ so_far (is_blank blank) can = λ well more p. rw (append-nil text) (so_far well more (passes_over number world first rest well more blank p))
after_line number world _ first rest all text _ _ so_far (is_done i came next told some p d prints) can =
    λ well more q. rw (append_assoc text told more) (so_far well (told ++ more) (does number world next first rest i came well told more some p d prints q))
after_line number world _ first rest all text _ _ so_far (is_unreadable next some cannot) can = absurd (can refl)

pub stopped : {start : Option WorldValue} (number : ℕ) (world next : Option WorldValue) (first : List ℕ) (rest all : List (List ℕ)) (text told : List ℕ) (came : Played) → Continues start number world (first ∷ rest) all text → PlaysLine world first came next told → came ≡ played.Unreadable
    → (told ≡ []) × Plays 1 start all false (text ++ verdict_line number (codes "unreadable"))
stopped number world _ first rest all text _ _ so_far (is_blank blank) e = absurd cc
stopped number world _ first rest all text _ _ so_far (is_done i came next told some p d prints) e = absurd cc
stopped number world _ first rest all text _ _ so_far (is_unreadable next some cannot) e = (refl, so_far false (verdict_line number (codes "unreadable")) (stops number world first rest some cannot))

pub at_the_end : {start : Option WorldValue} (number : ℕ) (world : Option WorldValue) (left all : List (List ℕ)) (text : List ℕ) → Continues start number world left all text → left ≡ [] → Plays 1 start all true text
at_the_end number world left all text so_far none = rw (append-nil text) at (so_far true [] (rw none (ends number world)))
