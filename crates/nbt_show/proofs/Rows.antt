-- Rows that are printed one after the other.
use Rattle.std.proofs.Common.{◌≡◌, ℕ, ◌<◌, ◌≤◌, List, [], ◌++◌, length, take, drop, sym, ◌∙◌, subst, append_assoc}
use Rattle.std.proofs.lemmas.List.{append-nil, take-append-drop, length-take-le}
use Rattle.nbt_show.specs.Rows.{PrintsRows, no_row, row}

-- `after` has the lines of the rows before the rest: whatever lines the rest has, those of all end in them.
abbrev pub IsPrinted : (width : ℕ) (IsLine : List ℕ → List ℕ → Type 0) (all rest before after : List ℕ) → Type 0
IsPrinted width IsLine all rest before after = (tail : List ℕ) → PrintsRows width IsLine rest tail → (lines : List ℕ) × PrintsRows width IsLine all lines × (before ++ lines ≡ after ++ tail)

-- the next row was printed
pub next_row : (width : ℕ) (IsLine : List ℕ → List ℕ → Type 0) (all rest before after first others line : List ℕ) → first ≡ take width rest → others ≡ drop width rest → width ≤ length rest
    → IsLine first line → IsPrinted width IsLine all rest before after → IsPrinted width IsLine all others before (after ++ line)
next_row width IsLine all rest before after first others line e f enough is printed = λ tail lines.
    let parts : rest ≡ first ++ others = rw (e, f) (sym (take-append-drop width rest)) in
    let long : length first ≡ width = rw e (length-take-le width rest enough) in
    let whole = printed (line ++ tail) (subst (λ (z : List ℕ). PrintsRows width IsLine z (line ++ tail)) (sym parts) (row first others line tail long is lines)) in
    (whole.0, whole.1, whole.2 ∙ sym (append_assoc after line tail))

-- all were
pub all_printed : (width : ℕ) (IsLine : List ℕ → List ℕ → Type 0) (all rest before after : List ℕ) → length rest < width → IsPrinted width IsLine all rest before after
    → (lines : List ℕ) × PrintsRows width IsLine all lines × (after ≡ before ++ lines)
all_printed width IsLine all rest before after few printed =
    let whole = printed [] (no_row rest few) in
    (whole.0, whole.1, sym (whole.2 ∙ append-nil after))
