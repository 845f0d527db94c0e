use Rattle.std.proofs.Common.{◌++◌, [], ◌∷◌, ◌∙◌}
use Rattle.nbt_nbns.proofs.Telling.{one_further, seen_more}
use Rattle.nbt_nbns.proofs.teller.show_each.Goals as goal

pub turns-preserved : goal.turns-preserved
turns-preserved g c =
    let turn = c.in-Some.turn in
    let so_far = c.turns.invariant.seen in
    record {
      seen = (
        so_far.0 ++ turn ∷ [],
        one_further so_far.0 turn c.turns.untold.items c.pop_front.new.self.items c.args.untold.now.items c.in-Some.ensures.items so_far.1,
        seen_more g.V.Watcher.sees c.args.server.now c.args.shown.now (record { watcher = c.args.watcher.now; text = g.W.Write.contents c.args.writer.now }) (record { watcher = c.turns.watcher; text = g.W.Write.contents c.turns.writer })
            (record { watcher = c.see.new.self; text = g.W.Write.contents c.see.new.writer }) so_far.0 turn so_far.2 c.see.ensures,
      );
      capacity = c.pop_front.ensures.capacity ∙ c.turns.invariant.capacity;
    }
