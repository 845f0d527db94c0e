use Rattle.nbt_nbns.specs.Inner.Renewing.{Parts}
use Rattle.nbt_nbns.specs.Staying.{Staying}
use Rattle.nbt_nbns.proofs.Renewed.{of_parts, renewed_so}
use Rattle.nbt_nbns.proofs.renewing.RenewedTurnTurn.take.Goals as goal

pub returns-in-Well-clause-takes : goal.returns-in-Well-clause-takes
returns-in-Well-clause-takes g c =
    let w = c.take_watched-turned in
    let l = c.look_for_front in
    let mid : Staying g.row.P.Denot g.row.S.Denot g.row.C.Denot g.row.D.Denot g.row.V.Denot = record {
      served = record { port = w.new.port; clock = w.new.clock; server = w.new.server; state = w.new.state };
      day = w.new.day;
      watcher = w.new.watcher;
      text = g.W.Write.contents w.new.writer;
    } in
    let parts : Parts g.row.P.Denot g.row.C.Denot g.row.V.Denot = record { port = l.new.port; clock = l.new.clock; watcher = l.new.watcher } in
    renewed_so g.P.Port.does g.P.Port.failures g.P.Renewable.renews g.S.Store.does g.C.Clock.tells g.D.Clock.tells g.V.Watcher.sees g.V.NotesFixed.notes c.args.self.now.until w.result _ mid _ c.in-Well.is w.ensures.takes
    (of_parts g.P.Renewable.renews g.V.NotesFixed.notes g.C.Clock.tells mid parts l.ensures)
