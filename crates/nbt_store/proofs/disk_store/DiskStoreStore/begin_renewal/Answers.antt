use Rattle.std.proofs.Common.{◌≡◌, ◌∙◌, [], true, false, refl, sym, ap}
use Rattle.std.specs.Prelude.{is_err}
use Rattle.std.proofs.lemmas.Result.{err_from_is_err_and}
use Rattle.nbt_store.specs.DiskStores.{Tail, before_it, is_broken}
use Rattle.nbt_store.proofs.Asking.{front_went_well, front_went_badly}
use Rattle.nbt_store.proofs.disk_store.DiskStoreStore.begin_renewal.Goals as goal

pub returns-then-is_some : goal.returns-then-is_some
returns-then-is_some g c = record { asked = []; chain = refl; asks = before_it; breaks = sym c.is_some.ensures ∙ c.if-is_some.true; nothing = λ broken. refl; written_is = refl; counts = refl }

pub returns-in_err-draft : goal.returns-in_err-draft
returns-in_err-draft g c =
    let old = c.args.self.now in
    let whole : is_broken old ≡ false = sym c.is_some.ensures ∙ c.if-is_some.false in
    let p = err_from_is_err_and c.from_residual.result c.from_residual.ensures.1 in
    let bad : is_err c.note.result ≡ true = ap is_err c.in_err-draft.was in
    rw p.1 (front_went_badly g.D.Disk.does old c.note.new.self c.begin_beside-done.new.disk c.note.ensures.disk whole c.args.header.now c.args.changes.items c.begin_beside-done.result c.note.result c.begin_beside-done.ensures c.note.ensures.result bad
    (c.note.ensures.broken whole) c.note.ensures.written c.note.ensures.lines)

pub returns : goal.returns
returns g c =
    let old = c.args.self.now in
    let whole : is_broken old ≡ false = sym c.is_some.ensures ∙ c.if-is_some.false in
    front_went_well g.D.Disk.does old _ c.begin_beside-done.new.disk c.note.ensures.disk whole c.args.header.now c.args.changes.items c.begin_beside-done.result c.note.result c.in_ok-draft.draft c.begin_beside-done.ensures c.note.ensures.value c.note.ensures.result
    c.in_ok-draft.was (c.note.ensures.broken whole) (ap (λ (t : Tail). t.sum) c.note.ensures.tail) refl c.note.ensures.written c.note.ensures.lines
