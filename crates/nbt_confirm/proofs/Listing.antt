-- The addresses of a list that is full: those that come first.
use Rattle.std.proofs.Common.{◌≡◌, ℕ, List, ◌++◌, length, map, take, drop, sym, ap, ◌∙◌}
use Rattle.std.specs.Prelude.{filter}
use Rattle.std.proofs.lemmas.List.{map-append, take_at, take-append-drop}
use Rattle.std.proofs.lemmas.List.Elements.{filter-append}
use Rattle.nbt_name.specs.Wire.{NameValue}
use Rattle.nbt_confirm.specs.declared.further.Further.{Further}
use Rattle.nbt_confirm.specs.Further.{is_listed, listed_at, name_most}

pub full_list : (now : ℕ) (name : NameValue) (holder i : ℕ) (rows : List Further) (listed : List ℕ) → listed ≡ listed_at now name holder (take i rows) → length listed ≡ name_most
    → listed ≡ take name_most (listed_at now name holder rows)
full_list now name holder i rows listed is full =
    let test = is_listed now name holder in
    let front = take i rows in
    let rest = drop i rows in
    let whole : listed_at now name holder rows ≡ listed_at now name holder front ++ listed_at now name holder rest =
    ap (listed_at now name holder) (sym (take-append-drop i rows))
    ∙ (ap (map (λ (row : Further). row.addr)) (filter-append test front rest) ∙ map-append (λ (row : Further). row.addr) (filter test front) (filter test rest)) in
    sym (ap (take name_most) (whole ∙ ap (λ (xs : List ℕ). xs ++ listed_at now name holder rest) (sym is)) ∙ take_at listed (listed_at now name holder rest) name_most full)
