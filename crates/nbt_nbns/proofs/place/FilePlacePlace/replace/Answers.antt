use Rattle.std.proofs.Common.{Ok, Err, refl}
use Rattle.std.specs.Prelude.{Result, OnOk, OnErr}
use Rattle.nbt_nbns.proofs.place.FilePlacePlace.replace.Goals as goal

if_ok : {T E P : Type 0} (r : Result T E) → P → OnOk r P
if_ok (Ok x) p = p
if_ok (Err e) p = tt

if_err : {T E P : Type 0} (r : Result T E) → P → OnErr r P
if_err (Ok x) p = tt
if_err (Err e) p = p

pub returns-clause-ok : goal.returns-clause-ok
returns-clause-ok g c = if_ok _ refl

pub returns-clause-err : goal.returns-clause-err
returns-clause-err g c = if_err _ refl
