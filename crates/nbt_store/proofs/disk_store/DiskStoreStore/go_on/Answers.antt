use Rattle.std.proofs.Common.{◌≡◌, ◌∙◌, [], Some, None, true, false, refl, sym, ap}
use Rattle.std.specs.Prelude.{Option, is_err, if◌then◌else◌}
use Rattle.std.proofs.lemmas.Result.{err_from_is_err_and}
use Rattle.nbt_store.specs.declared.draft.Draft.{Draft as NewFile}
use Rattle.nbt_store.specs.declared.store.Broken.{Broken}
use Rattle.nbt_store.specs.DiskStores.{before_it, beside_in, beside_of, is_broken, tail_of, tail_with}
use Rattle.nbt_store.proofs.Asking.{none_went_on, part_went_well, part_went_badly}
use Rattle.nbt_store.proofs.disk_store.DiskStoreStore.go_on.Goals as goal

pub returns-then-is_some : goal.returns-then-is_some
returns-then-is_some g c = record { asked = []; chain = refl; asks = before_it; breaks = sym c.is_some.ensures ∙ c.if-is_some.true; nothing = λ broken. refl; written_is = refl; counts = refl }

pub returns-in_default : goal.returns-in_default
returns-in_default g c =
    let old = c.args.self.now in
    let whole : is_broken old ≡ false = sym c.is_some.ensures ∙ c.if-is_some.false in
    let none : old.draft ≡ None = sym c.take.ensures.value ∙ c.in_default.is in
    let nothing : beside_in old.draft ≡ None = ap beside_in none in
    let still : c.take.new.self ≡ old.draft = c.take.ensures.after ∙ sym none in
    none_went_on g.D.Disk.does old _ _ refl whole nothing (ap (λ (d : Option NewFile). record { sum = old.sum; beside = beside_in d }) still) refl whole refl refl

pub returns-in_err-is_whole : goal.returns-in_err-is_whole
returns-in_err-is_whole g c =
    let old = c.args.self.now in
    let whole : is_broken old ≡ false = sym c.is_some.ensures ∙ c.if-is_some.false in
    let there : beside_in old.draft ≡ Some (beside_of c.in-Some.draft) = ap beside_in (sym c.take.ensures.value ∙ c.in-Some.is) in
    let p = err_from_is_err_and c.from_residual.result c.from_residual.ensures.1 in
    let bad : is_err c.note.result ≡ true = ap is_err c.in_err-is_whole.was in
    rw p.1 (part_went_badly g.D.Disk.does old c.note.new.self c.write_part-done.new.disk c.note.ensures.disk whole (beside_of c.in-Some.draft) (beside_of c.write_part-done.new.draft) c.write_part-done.result c.note.result c.write_part-done.ensures.asks c.note.ensures.result bad
    (c.note.ensures.broken whole) there c.note.ensures.written c.note.ensures.lines)

pub returns : goal.returns
returns g c =
    let old = c.args.self.now in
    let whole : is_broken old ≡ false = sym c.is_some.ensures ∙ c.if-is_some.false in
    let there : beside_in old.draft ≡ Some (beside_of c.in-Some.draft) = ap beside_in (sym c.take.ensures.value ∙ c.in-Some.is) in
    let b = c.in_ok-is_whole.is_whole in
    let new = beside_of c.write_part-done.new.draft in
    let taken : tail_of c.note.new.self ≡ record { sum = old.sum; beside = None } = c.note.ensures.tail ∙ ap (λ (d : Option NewFile). record { sum = old.sum; beside = beside_in d }) c.take.ensures.after in
    part_went_well g.D.Disk.does old c.keep.new.self c.write_part-done.new.disk (c.keep.ensures.disk ∙ c.note.ensures.disk) whole (beside_of c.in-Some.draft) new c.write_part-done.result c.note.result b c.write_part-done.ensures.asks c.note.ensures.value c.note.ensures.result c.in_ok-is_whole.was
    (c.keep.ensures.broken ∙ c.note.ensures.broken whole) there c.write_part-done.ensures.leases c.write_part-done.ensures.lines (c.keep.ensures.tail ∙ ap (tail_with b new) taken) (c.keep.ensures.written ∙ ap (λ (n : _). if b then new.leases else n) c.note.ensures.written) (c.keep.ensures.lines ∙ ap (λ (n : _). if b then new.lines else n) c.note.ensures.lines) Broken
