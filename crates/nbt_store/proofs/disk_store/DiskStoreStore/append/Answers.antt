use Rattle.std.proofs.Common.{◌≡◌, ◌∙◌, ℕ, ◌+◌, ◌-◌, ◌^◌, true, false, refl, sym, ap}
use Rattle.std.specs.Prelude.{is_err, min}
use Rattle.std.proofs.lemmas.Result.{err_from_is_err_and}
use Rattle.nbt_store.specs.DiskStores.{Tail, beside_in, is_broken}
use Rattle.nbt_store.proofs.Asking.{line_went_well, line_went_badly}
use Rattle.nbt_store.proofs.disk_store.DiskStoreStore.append.Goals as goal

pub returns-in_err-self : goal.returns-in_err-self
returns-in_err-self g c =
    let old = c.args.self.now in
    let whole : is_broken old ≡ false = sym c.is_some.ensures ∙ c.if-is_some.false in
    let p = err_from_is_err_and c.from_residual.result c.from_residual.ensures.1 in
    let bad : is_err c.note.result ≡ true = ap is_err c.in_err-self.was in
    rw p.1 (line_went_badly g.D.Disk.does old c.note.new.self c.write_line-done.new.disk c.note.ensures.disk whole c.args.change.now (beside_in c.write_line-done.new.draft) c.write_line-done.result c.note.result c.write_line-done.ensures c.note.ensures.result bad
    (c.note.ensures.broken whole) c.note.ensures.written c.note.ensures.lines)

pub returns : goal.returns
returns g c =
    let old = c.args.self.now in
    let whole : is_broken old ≡ false = sym c.is_some.ensures ∙ c.if-is_some.false in
    line_went_well g.D.Disk.does old _ c.write_line-done.new.disk c.note.ensures.disk whole c.args.change.now (beside_in c.write_line-done.new.draft) c.write_line-done.result c.note.result c.in_ok-self.field-0 c.write_line-done.ensures c.note.ensures.value c.note.ensures.result
    c.in_ok-self.was (c.note.ensures.broken whole) refl (ap (λ (t : Tail). t.beside) c.note.ensures.tail) c.note.ensures.written (c.saturating_add-self.ensures ∙ ap (λ (n : ℕ). min (n + 1) (2 ^ 64 - 1)) c.note.ensures.lines)
