use Rattle.std.proofs.Common.{refl}
use Rattle.std.proofs.lemmas.Result.{err_from_is_err_and}
use Rattle.nbt_dgram.specs.Dgram.{fragment_bad, lookup_bad}
use Rattle.nbt_dgram.proofs.decoding.body_at.Goals as goal

pub returns-in_err-fragment-in-Data-clause-fault : goal.returns-in_err-fragment-in-Data-clause-fault
returns-in_err-fragment-in-Data-clause-fault c =
    let p = err_from_is_err_and c.from_residual.result c.from_residual.ensures.1 in
    rw (p.1, p.2) (fragment_bad c.in-Data.delivery _ (rw c.in-Data.is at c.requires.kind) (rw c.in-Data.is at c.requires.head) c.in_err-fragment-in-Data.ensures.fault)

pub returns-in_err-name-in-Lookup-clause-fault : goal.returns-in_err-name-in-Lookup-clause-fault
returns-in_err-name-in-Lookup-clause-fault c =
    let p = err_from_is_err_and c.from_residual-in_err-name-in-Lookup.result c.from_residual-in_err-name-in-Lookup.ensures.1 in
    rw (p.1, p.2) (lookup_bad c.in-Lookup.lookup _ (rw c.in-Lookup.is at c.requires.kind) (rw c.in-Lookup.is at c.requires.head) ((c.in_err-name-in-Lookup.ensures.fault _).0 refl))
