use Rattle.std.proofs.Common.{[], ℕ, List, ap, ◌∙◌, subst}
use Rattle.nbt_waits.specs.Doing.{done_by}
use Rattle.nbt_waits.specs.Looking.{LooksFirst}
use Rattle.nbt_asking.specs.Attending.{comes_back, waits}
use Rattle.nbt_asking.specs.Port.{AskingPortValue}
use Rattle.nbt_asking.proofs.port.AskingPort.look_at_claim.Goals as goal

pub returns-in-Some : goal.returns-in-Some
returns-in-Some g c = λ octets is.
    let was = ap (λ (v : AskingPortValue g.row.P.Denot g.row.I.Denot). v.desk.aside) c.self.view_is ∙ is in
    let done = done_by c.in-Some.settled [] c.look.new.self in
    let looks = subst (λ (xs : List ℕ). LooksFirst c.args.table.now c.args.now c.args.came xs c.self.inside.desk.asking done) (c.octets.ensures c.args.came octets was) c.in-Some.ensures.waits in
    rw (c.note.ensures, c.let_go.ensures, ← c.self.view_is) (waits done looks)

pub returns-in-None : goal.returns-in-None
returns-in-None g c = λ octets is.
    let was = ap (λ (v : AskingPortValue g.row.P.Denot g.row.I.Denot). v.desk.aside) c.self.view_is ∙ is in
    let same = c.octets.ensures c.args.came octets was in
    rw (← c.self.view_is, c.in-None.ensures.none.1, c.come_back.ensures c.args.came octets was) (comes_back (λ done looks. (rw same at c.in-None.ensures.none.0) looks.r looks.awaits looks.claims looks.asks_first))
