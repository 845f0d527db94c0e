use Rattle.std.proofs.Common.{[], ◌∷◌, refl, sym, subst}
use Rattle.nbt_serve.specs.Waiting.{leaving}
use Rattle.nbt_serve.specs.Inner.Passing.{Leaves, still_wait, now_leave}
use Rattle.nbt_serve.proofs.waiting.Waiting.leave_where_due.Goals as goal

pub returns-then-not-is_to_leave-clause-ok : goal.returns-then-not-is_to_leave-clause-ok
returns-then-not-is_to_leave-clause-ok g c = ([], [], still_wait (sym c.if-not-is_to_leave.ensures), refl, refl, refl)

pub returns-in-Ok-clause-ok : goal.returns-in-Ok-clause-ok
returns-in-Ok-clause-ok g c =
    let life = c.args.limits.life in
    let now = c.in-Ok.now in
    let l = c.in-Ok.ensures.ok in
    (leaving life now c.args.self.now, now ∷ [], subst (Leaves life c.args.idle c.args.self.now (leaving life now c.args.self.now) (now ∷ [])) (sym l.2) (now_leave (sym c.if-not-is_to_leave.ensures) now), l.0, l.1, refl)

pub returns-in-Err-clause-err : goal.returns-in-Err-clause-err
returns-in-Err-clause-err g c = let l = c.in-Err.ensures.err in (l.0, l.1, sym c.if-not-is_to_leave.ensures, l.2, l.3, l.4)
