-- A list of names in an object.
use Rattle.std.proofs.Common.{◌≡◌, ◌++◌, ◌≤◌, ℕ, List, Result, Ok, Err, length, take, drop, sym, subst}
use Rattle.std.proofs.lemmas.List.{take-append-drop, length-take-le}
use Rattle.std.specs.Bool.{if◌then◌else◌}
use Rattle.std.specs.Prelude.{OnOk, codes}
use Rattle.std.specs.Result.{is_ok}
use Rattle.std.specs.declared.alloc.AllocError.{AllocError}
use Rattle.nbt_show.specs.Rows.{PrintsRows}
use Rattle.nbt_scan.specs.Json.{IsName, IsNextName, PrintsNames, of_some}

pub listed : (all name others first rest : List ℕ) → name ≡ take 18 all → others ≡ drop 18 all → 18 ≤ length all → IsName name first → PrintsRows 18 IsNextName others rest → PrintsNames all (codes "[" ++ first ++ rest ++ codes "]")
listed all name others first rest e f enough is rows =
    let parts : all ≡ name ++ others = rw (e, f) (sym (take-append-drop 18 all)) in
    let long : length name ≡ 18 = rw e (length-take-le 18 all enough) in
    subst (λ (z : List ℕ). PrintsNames z (codes "[" ++ first ++ rest ++ codes "]")) (sym parts) (of_some name others first rest long is rows)

-- a text that is written at once
pub when_ok : (old new text : List ℕ) (r : Result (Unit {0}) AllocError) → new ≡ (if is_ok r then old ++ text else old) → OnOk r (new ≡ old ++ text)
when_ok old new text (Ok u) written = written
when_ok old new text (Err e) written = tt
