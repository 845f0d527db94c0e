use Rattle.std.proofs.Common.{[], length, refl}
use Rattle.std.proofs.lemmas.Result.{err_from_is_err_and}
use Rattle.nbt_store.specs.DiskStores.{before_it, beside_of}
use Rattle.nbt_store.proofs.Asking.{front_added, front_not_added}
use Rattle.nbt_store.proofs.disk_store.begin_beside.Goals as goal

pub returns-in_err-text : goal.returns-in_err-text
returns-in_err-text g c =
    let p = err_from_is_err_and c.from_residual.result c.from_residual.ensures.1 in
    rw p.1 (λ before after. ([], refl, before_it))

pub returns-in_err-draft : goal.returns-in_err-draft
returns-in_err-draft g c =
    let p = err_from_is_err_and c.from_residual-in_err-draft.result c.from_residual-in_err-draft.ensures.1 in
    rw p.1 (λ before after. ([], refl, before_it))

pub returns-in_err-create : goal.returns-in_err-create
returns-in_err-create g c =
    let p = err_from_is_err_and c.from_residual-in_err-create.result c.from_residual-in_err-create.ensures.1 in
    rw p.1 (λ before after. front_not_added g.D.Disk.does c.args.disk.now c.create.new.self c.as_bytes.result.now c.args.header.now (length c.args.changes.items) c.in_ok-draft.draft.sum before after (rw c.as_bytes.ensures.value c.in_ok-draft.ensures.front) (rw c.in_err-create.was at c.create.ensures))

pub returns : goal.returns
returns g c = λ sum beside.
    front_added g.D.Disk.does c.args.disk.now c.create.new.self c.as_bytes.result.now c.args.header.now c.args.changes.items (beside_of c.in_ok-draft.draft) sum beside (rw c.as_bytes.ensures.value c.in_ok-draft.ensures.front) c.in_ok-draft.ensures.begun (rw c.in_ok-create.was at c.create.ensures)
