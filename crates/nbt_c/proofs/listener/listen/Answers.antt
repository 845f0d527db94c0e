use Rattle.nbt_c.proofs.Common.{[], ◌∷◌, ◌++◌, true≢false, refl, sym, ap, subst, ◌∙◌, Entry, ListensTo}
use Rattle.nbt_c.specs.Listening as is
use Rattle.nbt_c.proofs.listener.listen.Goals as goal

pub returns-in_default : goal.returns-in_default
returns-in_default c = is.ListensTo.has_no_name c.in_default.ensures.none

pub returns-in-Ok : goal.returns-in-Ok
returns-in-Ok c =
    let old = c.args.listener.now in
    let read = c.in-Some.ensures.read in
    subst (ListensTo c.args.entry.now old 0) (sym (c.in-Ok.ensures.ok ∙ ap (λ (entry : Entry). record old { entries = old.entries ++ entry ∷ [] }) read.1))
    (is.ListensTo.listens read.0 (λ full. true≢false (sym (c.in-Ok.ensures.full.1 full))))

pub returns-in-Err : goal.returns-in-Err
returns-in-Err c = subst (ListensTo c.args.entry.now c.args.listener.now 254) (sym c.in-Err.ensures.err) (is.ListensTo.is_full c.in-Some.ensures.read.0 (c.in-Err.ensures.full.0 refl))
