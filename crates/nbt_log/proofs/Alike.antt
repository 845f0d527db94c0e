-- How live names that read alike are spelled, row after row, and of which of them a resolver may be told.
use Rattle.std.proofs.Common.{◌≡◌, ◌∙◌, ℕ, ◌<◌, true, List, [], ◌∷◌, ◌++◌, refl, sym, ap, subst, inl, inr, Option, Some}
use Rattle.std.specs.Prelude.{Contains}
use Rattle.std.specs.Str.{bytes_eq}
use Rattle.std.proofs.lemmas.Bool.{cases_Bool, cond-true, cond-false}
use Rattle.std.proofs.lemmas.List.Elements.{Contains-append_left, Contains-push, Contains-push_cases}
use Rattle.std.proofs.lemmas.Slice.Eq.{bytes_eq-Decides}
use Rattle.nbt_name.specs.Wire.{NameValue}
use Rattle.nbt_lease.specs.Lease.{Rows}
use Rattle.nbt_lease.specs.declared.lease.Lease.{Lease}
use Rattle.nbt_text.specs.Texts.{PrintsEach, none_printed, one_printed}
use Rattle.nbt_log.specs.Hosts.{IsAlone, IsClear, PrintsHost, Reads, in_capitals, left_out, listed}
use Rattle.nbt_log.specs.Inner.Casing.{Cases, IsClearIn, IsOnly, Knows, KnowsAll, Notes, noted, of_none, of_one, of_several, spelled}
use Rattle.nbt_log.specs.declared.casing.Spelling.{Spelling}
use Rattle.nbt_log.specs.declared.casing.Spelling.TheVariants.{One, Several}

abbrev Row : Type 0
Row = NameValue × Lease

-- ---- one more row

-- beside a row that doesn't read so, each that does was there before
older : (now : ℕ) (rows : Rows) (last row : Row) (capitals : List ℕ) → ¬ Reads now capitals last → Contains (rows ++ last ∷ []) row → Reads now capitals row → Contains rows row
older now rows last row capitals other there reads = elim (Contains-push_cases rows last row there) [
  | inl before ↦ before
  | inr is_last ↦ absurd (other (subst (λ (r : Row). Reads now capitals r) (sym is_last) reads))
]

no_news : (now : ℕ) (rows : Rows) (last : Row) (capitals : List ℕ) {known : Option Spelling} → ¬ Reads now capitals last → Knows now rows capitals known → Knows now (rows ++ last ∷ []) capitals known
no_news now rows last capitals other (of_none none) = of_none (λ row there reads. none row (older now rows last row capitals other there reads) reads)
no_news now rows last capitals other (of_one one first here reads is all) =
    of_one one first (Contains-append_left rows (last ∷ []) first here) reads is (λ row there also. all row (older now rows last row capitals other there also) also)
no_news now rows last capitals other (of_several first second one_here two_here one_reads two_reads differ) =
    of_several first second (Contains-append_left rows (last ∷ []) first one_here) (Contains-append_left rows (last ∷ []) second two_here) one_reads two_reads differ

octets_of_last : (last row : Row) → last ≡ row → row.0.octets ≡ last.0.octets
octets_of_last last row e = ap (λ (r : Row). r.0.octets) (sym e)

-- one more that has the octets of the others
same_news : (now : ℕ) (rows : Rows) (last first : Row) (capitals one : List ℕ) → Reads now capitals first → Contains rows first → first.0.octets ≡ one → one ≡ last.0.octets
    → ((row : Row) → Contains rows row → Reads now capitals row → row.0.octets ≡ one) → Knows now (rows ++ last ∷ []) capitals (Some (One one))
same_news now rows last first capitals one reads here is same all =
    of_one one first (Contains-append_left rows (last ∷ []) first here) reads is (λ row there also. elim (Contains-push_cases rows last row there) [
      | inl before ↦ all row before also
      | inr is_last ↦ octets_of_last last row is_last ∙ sym same
    ])

news : (now : ℕ) (rows : Rows) (last : Row) (capitals : List ℕ) {known : Option Spelling} → Reads now capitals last → Knows now rows capitals known
    → Knows now (rows ++ last ∷ []) capitals (Some (noted known last.0.octets))
news now rows last capitals reads (of_none none) =
    of_one last.0.octets last (Contains-push rows last) reads refl (λ row there also. elim (Contains-push_cases rows last row there) [
      | inl before ↦ absurd (none row before also)
      | inr is_last ↦ octets_of_last last row is_last
    ])
news now rows last capitals reads (of_one one first here first_reads is all) = elim (cases_Bool (bytes_eq one last.0.octets)) [
  | inl same ↦ subst (λ (s : Spelling). Knows now (rows ++ last ∷ []) capitals (Some s)) (sym (cond-true (bytes_eq one last.0.octets) (One one) Several same))
      (same_news now rows last first capitals one first_reads here is ((bytes_eq-Decides one last.0.octets).0 same) all)
  | inr differs ↦ subst (λ (s : Spelling). Knows now (rows ++ last ∷ []) capitals (Some s)) (sym (cond-false (bytes_eq one last.0.octets) (One one) Several differs))
      (of_several first last (Contains-append_left rows (last ∷ []) first here) (Contains-push rows last) first_reads reads
      (λ e. let same : bytes_eq one last.0.octets ≡ true = (bytes_eq-Decides one last.0.octets).1 (sym is ∙ e) in absurd (cc)))
]
news now rows last capitals reads (of_several first second one_here two_here one_reads two_reads differ) =
    of_several first second (Contains-append_left rows (last ∷ []) first one_here) (Contains-append_left rows (last ∷ []) second two_here) one_reads two_reads differ

-- a live row more, whose name was noted
pub one_more_lives : (now : ℕ) (rows : Rows) (last : Row) (old new : Cases) → now < last.1.end → Notes last.0.octets old new → KnowsAll now rows old → KnowsAll now (rows ++ last ∷ []) new
one_more_lives now rows last old new lives notes knows = λ capitals. elim (cases_Bool (bytes_eq (in_capitals last.0.octets) capitals)) [
  | inl same ↦
      let e = (bytes_eq-Decides (in_capitals last.0.octets) capitals).0 same in
      subst (λ (o : Option Spelling). Knows now (rows ++ last ∷ []) capitals o) (sym (notes capitals ∙ cond-true (bytes_eq (in_capitals last.0.octets) capitals) (Some (noted (spelled old (in_capitals last.0.octets)) last.0.octets)) (spelled old capitals) same))
      (subst (λ (z : List ℕ). Knows now (rows ++ last ∷ []) z (Some (noted (spelled old (in_capitals last.0.octets)) last.0.octets))) e
      (news now rows last (in_capitals last.0.octets) (record { lives = lives; alike = refl }) (knows (in_capitals last.0.octets))))
  | inr differs ↦
      subst (λ (o : Option Spelling). Knows now (rows ++ last ∷ []) capitals o) (sym (notes capitals ∙ cond-false (bytes_eq (in_capitals last.0.octets) capitals) (Some (noted (spelled old (in_capitals last.0.octets)) last.0.octets)) (spelled old capitals) differs))
      (no_news now rows last capitals
      (λ reads. let same : bytes_eq (in_capitals last.0.octets) capitals ≡ true = (bytes_eq-Decides (in_capitals last.0.octets) capitals).1 reads.alike in absurd (cc))
      (knows capitals))
]

-- a row more whose lease is over
pub one_more_over : (now : ℕ) (rows : Rows) (last : Row) (old new : Cases) → ¬ (now < last.1.end) → new ≡ old → KnowsAll now rows old → KnowsAll now (rows ++ last ∷ []) new
one_more_over now rows last old new over same knows = λ capitals.
    subst (λ (cases : Cases). Knows now (rows ++ last ∷ []) capitals (spelled cases capitals)) (sym same) (no_news now rows last capitals (λ reads. over reads.lives) (knows capitals))

-- ---- what a resolver may be told

only_alone : (now : ℕ) (rows : Rows) (octets : List ℕ) {known : Option Spelling} → Knows now rows (in_capitals octets) known → IsOnly known octets → IsAlone now rows octets
only_alone now rows octets (of_none none) only = λ row there reads. absurd (none row there reads)
only_alone now rows octets (of_one one first here reads is all) only = λ row there also. all row there also ∙ only
only_alone now rows octets (of_several first second one_here two_here one_reads two_reads differ) only = absurd only

alone_only : (now : ℕ) (rows : Rows) (octets : List ℕ) {known : Option Spelling} → Knows now rows (in_capitals octets) known → IsAlone now rows octets → IsOnly known octets
alone_only now rows octets (of_none none) alone = tt
alone_only now rows octets (of_one one first here reads is all) alone = sym is ∙ alone first here reads
alone_only now rows octets (of_several first second one_here two_here one_reads two_reads differ) alone =
    absurd (differ (alone first one_here one_reads ∙ sym (alone second two_here two_reads)))

clear_out : (now : ℕ) (rows : Rows) (fixed : List (List ℕ)) (cases : Cases) (octets : List ℕ) → KnowsAll now rows cases → IsClearIn fixed cases octets → IsClear now rows fixed octets
clear_out now rows fixed cases octets knows clear = record {
  not_fixed = clear.not_fixed;
  one_case = elim clear.one_case [ inl capital ↦ inl capital | inr only ↦ inr (only_alone now rows octets (knows (in_capitals octets)) only) ];
}

clear_in : (now : ℕ) (rows : Rows) (fixed : List (List ℕ)) (cases : Cases) (octets : List ℕ) → KnowsAll now rows cases → IsClear now rows fixed octets → IsClearIn fixed cases octets
clear_in now rows fixed cases octets knows clear = record {
  not_fixed = clear.not_fixed;
  one_case = elim clear.one_case [ inl capital ↦ inl capital | inr alone ↦ inr (alone_only now rows octets (knows (in_capitals octets)) alone) ];
}

prints_told : (P Q : List ℕ → Type 0) → ((octets : List ℕ) → P octets → Q octets) → ((octets : List ℕ) → Q octets → P octets)
    → (now : ℕ) (row : Row) (text : List ℕ) → PrintsHost P now row text → PrintsHost Q now row text
prints_told P Q there back now row text (listed host is) = listed host (record { lives = is.lives; unique = is.unique; is_host = is.is_host; told = there row.0.octets is.told })
prints_told P Q there back now row text (left_out none) =
    left_out (λ host is. none host (record { lives = is.lives; unique = is.unique; is_host = is.is_host; told = back row.0.octets is.told }))

each_told : (P Q : List ℕ → Type 0) → ((octets : List ℕ) → P octets → Q octets) → ((octets : List ℕ) → Q octets → P octets)
    → (now : ℕ) (rows : Rows) (text : List ℕ) → PrintsEach (PrintsHost P now) rows text → PrintsEach (PrintsHost Q now) rows text
each_told P Q there back now rows text none_printed = none_printed
each_told P Q there back now rows text (one_printed first others line more prints rest) =
    one_printed first others line more (prints_told P Q there back now first line prints) (each_told P Q there back now others more rest)

-- the lines by the cases of the live names of all rows are those of the rows themselves
pub clear_lines : (now : ℕ) (rows : Rows) (fixed : List (List ℕ)) (cases : Cases) (text : List ℕ) → KnowsAll now rows cases
    → PrintsEach (PrintsHost (IsClearIn fixed cases) now) rows text → PrintsEach (PrintsHost (IsClear now rows fixed) now) rows text
clear_lines now rows fixed cases text knows printed =
    each_told (IsClearIn fixed cases) (IsClear now rows fixed) (λ octets. clear_out now rows fixed cases octets knows) (λ octets. clear_in now rows fixed cases octets knows) now rows text printed
