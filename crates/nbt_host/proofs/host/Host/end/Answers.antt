use Rattle.std.proofs.Common.{◌≡◌, List, subst, rules}
use Rattle.std.specs.Vec.{with_items}
use Rattle.std.proofs.lemmas.List.{with_items_is}
use Rattle.std.proofs.lemmas.Result.{err_from_is_err_and}
use Rattle.nbt_host.specs.declared.goal.Goal.{Goal}
use Rattle.nbt_host.specs.ReleaseLines.{PrintsEnding, is_cut}
use Rattle.nbt_host.specs.Host.{HostingValue, terms_of}
use Rattle.nbt_host.proofs.Ended.{ended_so, broke_down}
use Rattle.nbt_host.proofs.host.Host.end.Goals as goal

pub returns-in_err-tell_ending-clause-err : goal.returns-in_err-tell_ending-clause-err
returns-in_err-tell_ending-clause-err g c =
    let p = err_from_is_err_and c.from_residual.result c.from_residual.ensures.1 in
    let a = c.args in
    let had = c.self.inside in
    let given = c.give_back-given in
    let old : HostingValue g.row.K.Denot = record { watch = had.watch; last = had.last; asked = had.asked; host = record { goals = had.goals.items; node = had.node } } in
    let new : HostingValue g.row.K.Denot = record { watch = c.now-at.new.self; last = given.new.last; asked = had.asked; host = record { goals = given.new.goals; node = given.new.node } } in
    let goals = c.as_mut_slice.ensures.value in
    let back : (with_items had.goals given.new.goals).items ≡ given.new.goals = with_items_is had.goals given.new.goals (search rules) in
    let well = given.ensures.ok in
    let badly = given.ensures.err in
    rw (p.1, p.2, ← c.self.view_is, back) (is_cut c.in_err-tell_ending.field-0.0
    (record { port = a.port.now; host = old; text = g.W.Write.contents a.writer.now })
    (record { port = given.new.port; host = new; text = g.W.Write.contents c.tell_ending.new.writer })
    c.now-at.result c.in_err-tell_ending.ensures.err
    (ended_so g.P.Port.does g.K.Clock.tells g.K.Watch.looks (terms_of a.arguments.now had.asked) a.port.now given.new.port old new given.new.watch c.now-at.result c.now-at.ensures given.result (rw goals at well) (rw goals at badly)))

pub returns-in_err-given-clause-err : goal.returns-in_err-given-clause-err
returns-in_err-given-clause-err g c =
    let p = err_from_is_err_and c.from_residual-in_err-given.result c.from_residual-in_err-given.ensures.1 in
    let a = c.args in
    let had = c.self.inside in
    let given = c.give_back-given in
    let old : HostingValue g.row.K.Denot = record { watch = had.watch; last = had.last; asked = had.asked; host = record { goals = had.goals.items; node = had.node } } in
    let new : HostingValue g.row.K.Denot = record { watch = c.now-at.new.self; last = given.new.last; asked = had.asked; host = record { goals = given.new.goals; node = given.new.node } } in
    let goals = c.as_mut_slice.ensures.value in
    let back : (with_items had.goals given.new.goals).items ≡ given.new.goals = with_items_is had.goals given.new.goals (search rules) in
    let badly = c.in_err-given.ensures.err in
    let printed = c.in_ok-tell_ending.ensures.ok in
    rw (p.1, ← c.self.view_is, back) (broke_down g.P.Port.does g.K.Clock.tells g.K.Watch.looks (terms_of a.arguments.now had.asked) p.0
    (record { port = a.port.now; host = old; text = g.W.Write.contents a.writer.now })
    (record { port = given.new.port; host = new; text = g.W.Write.contents c.tell_ending.new.writer })
    c.now-at.result p.2
    (given.new.watch, rw goals at badly, c.now-at.ensures)
    (subst (λ (gs : List Goal). PrintsEnding c.now-at.result given.new.last gs (g.W.Write.contents a.writer.now) (g.W.Write.contents c.tell_ending.new.writer)) back printed))
