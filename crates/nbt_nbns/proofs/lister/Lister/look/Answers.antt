use Rattle.std.proofs.Common.{ℕ, List, Option, Some, refl, sym, ap, subst, ◌∙◌}
use Rattle.std.proofs.lemmas.Bool.{false≢true}
use Rattle.std.proofs.lemmas.Result.{err_from_is_err_and}
use Rattle.std.specs.String.{string_bytes}
use Rattle.nbt_log.specs.Drafts.{DraftValue, listing_of}
use Rattle.nbt_nbns.specs.Keeping.{text_of}
use Rattle.nbt_nbns.specs.Listers.{next_draft}
use Rattle.nbt_nbns.proofs.Listed.{no_memory_list, refused_list, same_list, unfinished_list, written_list}
use Rattle.nbt_nbns.proofs.lister.Lister.look.Goals as goal

pub returns-in_err-draft : goal.returns-in_err-draft
returns-in_err-draft g c =
    let p = err_from_is_err_and c.from_residual.result c.from_residual.ensures.1 in
    rw p.1 (no_memory_list g.L.Place.puts g.L.Place.refuses (listing_of c.args.listing.now) c.args.server.now.table.rows c.args.now c.args.self.now c.self.inside.looked c.self.inside.draft (text_of c.self.inside.text) c.self.inside.place (sym c.self.view_is) c.requires.due c.take-begun.new.self c.take-begun.ensures.after)

pub returns-then-not-is_whole : goal.returns-then-not-is_whole
returns-then-not-is_whole g c =
    unfinished_list g.L.Place.puts g.L.Place.refuses (listing_of c.args.listing.now) c.args.server.now.table.rows c.args.now c.args.self.now c.self.inside.looked c.self.inside.draft (text_of c.self.inside.text) c.self.inside.place (sym c.self.view_is) c.requires.due
    c.in_ok-draft.draft (c.in_ok-draft.ensures ∙ ap (λ (begun : Option DraftValue). next_draft begun (listing_of c.args.listing.now) c.args.server.now.table.rows c.args.now) c.take-begun.ensures.value)
    (λ whole. false≢true (c.if-not-is_whole.ensures.1 whole))

pub returns-then-has : goal.returns-then-has
returns-then-has g c =
    same_list g.L.Place.puts g.L.Place.refuses (listing_of c.args.listing.now) c.args.server.now.table.rows c.args.now c.args.self.now c.self.inside.looked c.self.inside.draft (text_of c.self.inside.text) c.self.inside.place (sym c.self.view_is) c.requires.due
    c.in_ok-draft.draft (c.in_ok-draft.ensures ∙ ap (λ (begun : Option DraftValue). next_draft begun (listing_of c.args.listing.now) c.args.server.now.table.rows c.args.now) c.take-begun.ensures.value)
    (c.if-not-is_whole.ensures.0 refl) c.take-begun.new.self c.take-begun.ensures.after (string_bytes c.into_text-text.result) c.into_text-text.ensures
    (c.if-has.ensures.0 refl ∙ ap (λ (xs : List ℕ). Some xs) c.as_str.ensures.value)

pub returns-in_err-replace : goal.returns-in_err-replace
returns-in_err-replace g c =
    let p = err_from_is_err_and c.from_residual-in_err-replace.result c.from_residual-in_err-replace.ensures.1 in
    rw p.1
    (refused_list g.L.Place.puts g.L.Place.refuses (listing_of c.args.listing.now) c.args.server.now.table.rows c.args.now c.args.self.now c.self.inside.looked c.self.inside.draft (text_of c.self.inside.text) c.self.inside.place (sym c.self.view_is) c.requires.due
    c.in_ok-draft.draft (c.in_ok-draft.ensures ∙ ap (λ (begun : Option DraftValue). next_draft begun (listing_of c.args.listing.now) c.args.server.now.table.rows c.args.now) c.take-begun.ensures.value)
    (c.if-not-is_whole.ensures.0 refl) c.take-begun.new.self c.take-begun.ensures.after (string_bytes c.into_text-text.result) c.into_text-text.ensures
    c.replace.new.self (λ e. false≢true (c.if-has.ensures.1 (e ∙ ap (λ (xs : List ℕ). Some xs) (sym c.as_str.ensures.value))))
    (subst (λ (xs : List ℕ). g.L.Place.refuses c.self.inside.place xs c.replace.new.self) c.as_str-2.ensures.value c.in_err-replace.ensures.err))

pub returns : goal.returns
returns g c =
    written_list g.L.Place.puts g.L.Place.refuses (listing_of c.args.listing.now) c.args.server.now.table.rows c.args.now c.args.self.now c.self.inside.looked c.self.inside.draft (text_of c.self.inside.text) c.self.inside.place (sym c.self.view_is) c.requires.due
    c.in_ok-draft.draft (c.in_ok-draft.ensures ∙ ap (λ (begun : Option DraftValue). next_draft begun (listing_of c.args.listing.now) c.args.server.now.table.rows c.args.now) c.take-begun.ensures.value)
    (c.if-not-is_whole.ensures.0 refl) c.take-begun.new.self c.take-begun.ensures.after (string_bytes c.into_text-text.result) c.into_text-text.ensures
    c.replace.new.self (λ e. false≢true (c.if-has.ensures.1 (e ∙ ap (λ (xs : List ℕ). Some xs) (sym c.as_str.ensures.value))))
    (subst (λ (xs : List ℕ). g.L.Place.puts c.self.inside.place xs c.replace.new.self) c.as_str-2.ensures.value c.in_ok-replace.ensures.ok)
