use Rattle.std.proofs.Common.{ℕ, List, Some, refl, sym, ap, subst, ◌∙◌}
use Rattle.std.proofs.lemmas.Bool.{false≢true}
use Rattle.std.proofs.lemmas.Result.{err_from_is_err_and}
use Rattle.std.specs.String.{string_bytes}
use Rattle.nbt_nbns.specs.Keeping.{text_of}
use Rattle.nbt_nbns.proofs.Looking.{no_memory_look, refused_text, same_text, written_text}
use Rattle.nbt_nbns.proofs.keeper.Keeper.look.Goals as goal

pub returns-in_err-text : goal.returns-in_err-text
returns-in_err-text g c =
    let p = err_from_is_err_and c.from_residual.result c.from_residual.ensures.1 in
    rw p.1
    (no_memory_look g.L.Place.puts g.L.Place.refuses (g.T.Report.says c.args.report.now c.args.server.now c.args.dates.now c.args.now) c.args.now c.args.self.now c.self.inside.looked (text_of c.self.inside.text) c.self.inside.place (sym c.self.view_is) c.requires.due)

pub returns-then-has : goal.returns-then-has
returns-then-has g c =
    same_text g.L.Place.puts g.L.Place.refuses (g.T.Report.says c.args.report.now c.args.server.now c.args.dates.now c.args.now) c.args.now c.args.self.now c.self.inside.looked (text_of c.self.inside.text) c.self.inside.place (sym c.self.view_is) c.requires.due
    (string_bytes c.in_ok-text.text) c.in_ok-text.ensures (c.if-has.ensures.0 refl ∙ ap (λ (xs : List ℕ). Some xs) c.as_str.ensures.value)

pub returns-in_err-replace : goal.returns-in_err-replace
returns-in_err-replace g c =
    let p = err_from_is_err_and c.from_residual-in_err-replace.result c.from_residual-in_err-replace.ensures.1 in
    rw p.1
    (refused_text g.L.Place.puts g.L.Place.refuses (g.T.Report.says c.args.report.now c.args.server.now c.args.dates.now c.args.now) c.args.now c.args.self.now c.self.inside.looked (text_of c.self.inside.text) c.self.inside.place (sym c.self.view_is) c.requires.due
    (string_bytes c.in_ok-text.text) c.replace.new.self c.in_ok-text.ensures (λ e. false≢true (c.if-has.ensures.1 (e ∙ ap (λ (xs : List ℕ). Some xs) (sym c.as_str.ensures.value))))
    (subst (λ (xs : List ℕ). g.L.Place.refuses c.self.inside.place xs c.replace.new.self) c.as_str-2.ensures.value c.in_err-replace.ensures.err))

pub returns : goal.returns
returns g c =
    written_text g.L.Place.puts g.L.Place.refuses (g.T.Report.says c.args.report.now c.args.server.now c.args.dates.now c.args.now) c.args.now c.args.self.now c.self.inside.looked (text_of c.self.inside.text) c.self.inside.place (sym c.self.view_is) c.requires.due
    (string_bytes c.in_ok-text.text) c.replace.new.self c.in_ok-text.ensures (λ e. false≢true (c.if-has.ensures.1 (e ∙ ap (λ (xs : List ℕ). Some xs) (sym c.as_str.ensures.value))))
    (subst (λ (xs : List ℕ). g.L.Place.puts c.self.inside.place xs c.replace.new.self) c.as_str-2.ensures.value c.in_ok-replace.ensures.ok)
