-- What is written of a text is read as that text.
use Rattle.std.proofs.Common.{◌≡◌, ℕ, List, [], ◌∷◌, ◌++◌, arith}
use Rattle.std.proofs.lemmas.Bool.{cond_both, eqb-true, eqb-false, ltb-true}
use Rattle.std.proofs.lemmas.List.Elements.{All-head, All-tail}
use Rattle.std.specs.Prelude.{◌==◌, All, codes, nat_lt}
use Rattle.nbt_sim.specs.Escaping.{IsPrintable, IsNamed, Reads, written, written_octet, ampersand, less, greater, quote, apostrophe, ends, itself, by_name}

-- an octet that has a name is read by it
named : (octet code : ℕ) (name rest text : List ℕ) → octet ≡ code → IsNamed name code → Reads rest text → Reads (codes "&" ++ name ++ codes ";" ++ rest) (octet ∷ text)
named octet code name rest text e n r = rw e (by_name name code rest text n r)

-- what is written of an octet that can be printed is read as that octet
octet_reads : (octet : ℕ) (rest text : List ℕ) → IsPrintable octet → Reads rest text → Reads (written_octet octet ++ rest) (octet ∷ text)
octet_reads octet rest text p r =
    let P : List ℕ → Type 0 = λ w. Reads (w ++ rest) (octet ∷ text) in
    cond_both (octet == 38) _ _ P (λ e. named octet 38 (codes "amp") rest text (eqb-true octet 38 e) ampersand r) (λ not_ampersand.
    cond_both (octet == 60) _ _ P (λ e. named octet 60 (codes "lt") rest text (eqb-true octet 60 e) less r) (λ not_less.
    cond_both (octet == 62) _ _ P (λ e. named octet 62 (codes "gt") rest text (eqb-true octet 62 e) greater r) (λ _.
    cond_both (octet == 34) _ _ P (λ e. named octet 34 (codes "quot") rest text (eqb-true octet 34 e) quote r) (λ _.
    cond_both (octet == 39) _ _ P (λ e. named octet 39 (codes "apos") rest text (eqb-true octet 39 e) apostrophe r) (λ _.
    cond_both (nat_lt octet 0x20) _ _ P (λ e. absurd (omega (arith, ltb-true octet 0x20 e, p.0))) (λ _.
    cond_both (nat_lt 0x7E octet) _ _ P (λ e. absurd (omega (arith, ltb-true 0x7E octet e, p.1))) (λ _.
    itself octet rest text (eqb-false octet 38 not_ampersand) (eqb-false octet 60 not_less) r)))))))

pub written_reads : (text : List ℕ) → All IsPrintable text → Reads (written text) text
written_reads [] all = ends
written_reads (octet ∷ text) all = octet_reads octet (written text) text (All-head IsPrintable octet text all) (written_reads text (All-tail IsPrintable octet text all))
