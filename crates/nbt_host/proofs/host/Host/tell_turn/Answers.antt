use Rattle.std.proofs.Common.{sym}
use Rattle.nbt_host.proofs.Opened.{prints_nothing}
use Rattle.nbt_host.proofs.host.Host.tell_turn.Goals as goal

pub returns-then-not-prints_lines-clause-ok : goal.returns-then-not-prints_lines-clause-ok
returns-then-not-prints_lines-clause-ok g c = prints_nothing c.args.arguments.now c.args.shown.now c.args.self.now (g.W.Write.contents c.args.writer.now) (sym c.if-not-prints_lines.ensures)
