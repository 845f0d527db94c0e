use Rattle.std.proofs.Common.{[], refl}
use Rattle.std.proofs.lemmas.Result.{err_from_is_err_and}
use Rattle.nbt_store.specs.DiskStores.{beside_of, before_it}
use Rattle.nbt_store.proofs.Asking.{part_added, part_not_added, last_added, last_not_added}
use Rattle.nbt_store.proofs.disk_store.write_part.Goals as goal

pub returns-in_err-write_part-clause-asks : goal.returns-in_err-write_part-clause-asks
returns-in_err-write_part-clause-asks g c =
    let p = err_from_is_err_and c.from_residual.result c.from_residual.ensures.1 in
    rw p.1 (λ sum after. ([], refl, before_it))

pub returns-in_err-append_beside-clause-asks : goal.returns-in_err-append_beside-clause-asks
returns-in_err-append_beside-clause-asks g c =
    let w = c.in_ok-write_part.ensures.written in
    let p = err_from_is_err_and c.from_residual-in_err-append_beside.result c.from_residual-in_err-append_beside.ensures.1 in
    rw p.1 (λ sum after. part_not_added g.D.Disk.does c.args.disk.now c.append_beside.new.self (beside_of c.args.draft.now) (beside_of c.write_part.new.self) c.as_bytes.result.now w.0 w.1 w.2 (rw c.as_bytes.ensures.value w.3) sum after
    (rw c.in_err-append_beside.was at c.append_beside.ensures))

pub returns-then-not-is_whole-clause-asks : goal.returns-then-not-is_whole-clause-asks
returns-then-not-is_whole-clause-asks g c =
    let w = c.in_ok-write_part.ensures.written in
    λ sum. part_added g.D.Disk.does c.args.disk.now c.append_beside.new.self (beside_of c.args.draft.now) (beside_of c.write_part.new.self) c.as_bytes.result.now w.0 w.1 w.2 (rw c.as_bytes.ensures.value w.3)
    c.write_part.ensures.leases c.write_part.ensures.lines sum (rw c.in_ok-append_beside.was at c.append_beside.ensures)

pub returns-in_err-install-clause-asks : goal.returns-in_err-install-clause-asks
returns-in_err-install-clause-asks g c =
    let w = c.in_ok-write_part.ensures.written in
    let p = err_from_is_err_and c.from_residual-in_err-install.result c.from_residual-in_err-install.ensures.1 in
    rw p.1 (λ sum after. last_not_added g.D.Disk.does c.args.disk.now c.append_beside.new.self (beside_of c.args.draft.now) (beside_of c.write_part.new.self) c.as_bytes.result.now w.0 w.1 w.2 (rw c.as_bytes.ensures.value w.3)
    (c.is_whole.ensures.0 c.if-not-is_whole.false) sum after c.install.new.self (rw c.in_ok-append_beside.was at c.append_beside.ensures) (rw c.in_err-install.was at c.install.ensures))

pub returns-clause-asks : goal.returns-clause-asks
returns-clause-asks g c =
    let w = c.in_ok-write_part.ensures.written in
    λ sum. last_added g.D.Disk.does c.args.disk.now c.append_beside.new.self (beside_of c.args.draft.now) (beside_of c.write_part.new.self) c.as_bytes.result.now w.0 w.1 w.2 (rw c.as_bytes.ensures.value w.3)
    (c.is_whole.ensures.0 c.if-not-is_whole.false) sum c.install.new.self (rw c.in_ok-append_beside.was at c.append_beside.ensures) (rw c.in_ok-install.was at c.install.ensures)
