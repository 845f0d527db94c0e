-- A draft of a list, part after part, and its text once it is whole.
use Rattle.std.proofs.Common.{◌≡◌, ◌∙◌, ℕ, ◌<◌, ◌≤◌, ◌-◌, List, [], ◌∷◌, ◌++◌, length, take, drop, refl, sym, ap, subst, inl, inr, append_assoc, append-nil, arith}
use Rattle.std.proofs.lemmas.List.{take_all, take-append-drop, take-take}
use Rattle.std.proofs.lemmas.Slice.{between_is}
use Rattle.nbt_lease.specs.Lease.{Rows}
use Rattle.nbt_text.specs.Texts.{PrintsEach, none_printed, one_printed}
use Rattle.std.proofs.lemmas.Bool.{cases_lt}
use Rattle.nbt_log.specs.Hosts.{hosts_head}
use Rattle.nbt_log.specs.Leases.{list_head}
use Rattle.nbt_log.specs.Drafts.{DraftValue, IsDraftText, IsListing, IsWhole, noted_at_first}
use Rattle.nbt_log.specs.Inner.Drafting.{IsBegun, Knows, Prints, head_in, listing_in}
use Rattle.nbt_log.specs.declared.draft.Printer.{Printer}
use Rattle.nbt_log.specs.declared.draft.Printer.TheVariants.{Leases, Hosts}
use Rattle.nbt_log.proofs.Alike.{clear_lines}

-- those of two lists, one after the other
both_printed : {A : Type 0} (PrintsOne : A → List ℕ → Type 0) (xs ys : List A) (s t : List ℕ) → PrintsEach PrintsOne xs s → PrintsEach PrintsOne ys t → PrintsEach PrintsOne (xs ++ ys) (s ++ t)
both_printed PrintsOne xs ys s t none_printed others = others
both_printed PrintsOne xs ys s t (one_printed first rest text more prints each) others =
    subst (λ (z : List ℕ). PrintsEach PrintsOne (first ∷ rest ++ ys) z) (sym (append_assoc text more t)) (one_printed first (rest ++ ys) text (more ++ t) prints (both_printed PrintsOne rest ys more t each others))

-- the first of a list, and those behind them up to a place
up_to : {A : Type 0} (xs : List A) (a b : ℕ) → a ≤ b → take a xs ++ take (b - a) (drop a xs) ≡ take b xs
up_to {A} xs a b less =
    ap (λ (zs : List A). zs ++ take (b - a) (drop a xs)) (sym (take-take a b xs less)) ∙ (ap (λ (zs : List A). take a (take b xs) ++ zs) (between_is xs a b) ∙ take-append-drop a (take b xs))

-- of nothing, nothing is printed
nothing_printed : {A : Type 0} (PrintsOne : A → List ℕ → Type 0) (xs : List A) (text : List ℕ) → xs ≡ [] → PrintsEach PrintsOne xs text → text ≡ []
nothing_printed PrintsOne xs text is none_printed = refl
nothing_printed PrintsOne xs text is (one_printed first rest here more prints others) = absurd cc

pub none_yet : (printer : Printer) (now : ℕ) (rows : Rows) (noted : ℕ) (text : List ℕ) → ((at : ℕ) → Knows printer at []) → noted ≡ noted_at_first (listing_in printer) rows → text ≡ head_in printer
    → IsBegun printer now rows noted 0 text
none_yet (Leases dates) now rows noted text knows first is = record {
  lines = [];
  knows = tt;
  noted_within = omega (arith, first);
  within = omega arith;
  in_order = λ _. refl;
  printed = none_printed;
  text_is = is ∙ sym (append-nil list_head);
}
none_yet (Hosts fixed cases) now rows noted text knows first is = record {
  lines = [];
  knows = subst (λ (count : ℕ). Knows (Hosts fixed cases) now (take count rows)) (sym first) (knows now);
  noted_within = omega (arith, first);
  within = omega arith;
  in_order = λ _. refl;
  printed = none_printed;
  text_is = is ∙ sym (append-nil hosts_head);
}

-- one part more is noted, of which there are rows
pub one_part_known : (before after : Printer) (now : ℕ) (rows part : Rows) (noted done end : ℕ) (text : List ℕ) → IsBegun before now rows noted done text → noted < end → end ≤ length rows → part ≡ take (end - noted) (drop noted rows)
    → head_in after ≡ head_in before → ((known : Rows) → Knows before now known → Knows after now (known ++ part)) → IsBegun after now rows end done text
one_part_known before after now rows part noted done end text begun less within is head knows =
    let none : done ≡ 0 = begun.in_order (omega (arith, less, within)) in
    let empty : begun.lines ≡ [] = nothing_printed (Prints before now) (take done rows) begun.lines (ap (λ (count : ℕ). take count rows) none) begun.printed in
    record {
      lines = [];
      knows = subst (λ (rs : Rows). Knows after now rs) (ap (λ (rs : Rows). take noted rows ++ rs) is ∙ up_to rows noted end (omega (arith, less))) (knows (take noted rows) begun.knows);
      noted_within = within;
      within = begun.within;
      in_order = λ _. none;
      printed = subst (λ (count : ℕ). PrintsEach (Prints after now) (take count rows) []) (sym none) none_printed;
      text_is = begun.text_is ∙ (ap (λ (z : List ℕ). head_in before ++ z) empty ∙ ap (λ (z : List ℕ). z ++ []) (sym head));
    }

-- all were noted before
pub as_before : (printer : Printer) (now : ℕ) (rows : Rows) (noted done end : ℕ) (text : List ℕ) → IsBegun printer now rows noted done text → end ≤ noted → noted ≤ end → IsBegun printer now rows end done text
as_before printer now rows noted done end text begun most least =
    let same : noted ≡ end = omega (arith, most, least) in subst (λ (count : ℕ). IsBegun printer now rows count done text) same begun

-- one part more is printed, once all are noted
pub one_part : (printer : Printer) (now : ℕ) (rows part : Rows) (noted done end : ℕ) (old new more : List ℕ) → IsBegun printer now rows noted done old → noted ≡ length rows → done ≤ end → end ≤ length rows → part ≡ take (end - done) (drop done rows)
    → PrintsEach (Prints printer now) part more → new ≡ old ++ more → IsBegun printer now rows noted end new
one_part printer now rows part noted done end old new more begun all less within is printed added = record {
  lines = begun.lines ++ more;
  knows = begun.knows;
  noted_within = begun.noted_within;
  within = within;
  in_order = λ few. absurd (omega (arith, few, all));
  printed = subst (λ (rs : Rows). PrintsEach (Prints printer now) rs (begun.lines ++ more)) (ap (λ (rs : Rows). take done rows ++ rs) is ∙ up_to rows done end less)
      (both_printed (Prints printer now) (take done rows) part begun.lines more begun.printed printed);
  text_is = added ∙ (ap (λ (z : List ℕ). z ++ more) begun.text_is ∙ append_assoc (head_in printer) begun.lines more);
}

-- all lines of a whole one
all_lines : (printer : Printer) (now : ℕ) (rows : Rows) (noted done : ℕ) (text : List ℕ) → (begun : IsBegun printer now rows noted done text) → done ≡ length rows → PrintsEach (Prints printer now) rows begun.lines
all_lines printer now rows noted done text begun whole = subst (λ (rs : Rows). PrintsEach (Prints printer now) rs begun.lines) (take_all done rows (omega (arith, whole))) begun.printed

-- then the names of all are noted
all_known : (printer : Printer) (now : ℕ) (rows : Rows) (noted done : ℕ) (text : List ℕ) → (begun : IsBegun printer now rows noted done text) → done ≡ length rows → Knows printer now rows
all_known printer now rows noted done text begun whole = subst (λ (rs : Rows). Knows printer now rs) (take_all noted rows (elim (cases_lt noted (length rows)) [
  | inr all ↦ all
  | inl few ↦ let none = begun.in_order few in absurd (omega (arith, whole, none, few))
])) begun.knows

whole_text : (printer : Printer) (now : ℕ) (rows : Rows) (noted done : ℕ) (text : List ℕ) → IsBegun printer now rows noted done text → done ≡ length rows → IsListing (listing_in printer) now rows text
whole_text (Leases dates) now rows noted done text begun whole = (begun.lines, all_lines (Leases dates) now rows noted done text begun whole, begun.text_is)
whole_text (Hosts fixed cases) now rows noted done text begun whole =
    (begun.lines, clear_lines now rows fixed cases begun.lines (all_known (Hosts fixed cases) now rows noted done text begun whole) (all_lines (Hosts fixed cases) now rows noted done text begun whole), begun.text_is)

pub whole_draft : (draft : DraftValue) (printer : Printer) (at : ℕ) (rows : Rows) (noted done : ℕ) (text : List ℕ) → record { listing = listing_in printer; at = at; rows = rows; noted = noted; done = done } ≡ draft → IsWhole draft
    → IsBegun printer at rows noted done text → IsDraftText draft text
whole_draft draft printer at rows noted done text is whole begun =
    subst (λ (d : DraftValue). IsDraftText d text) is (whole_text printer at rows noted done text begun (subst (λ (d : DraftValue). IsWhole d) (sym is) whole))
