use Rattle.std.proofs.Common.{refl, sym}
use Rattle.std.proofs.lemmas.Bool.{eqb-false}
use Rattle.nbt_nbns.specs.Journaling.{is_read}
use Rattle.nbt_nbns.proofs.journal.follow_day.Goals as goal

pub returns : goal.returns
returns g c = is_read (eqb-false c.args.read.now c.args.at (sym c.if-eq.ensures)) c.now-time.result c.now-time.ensures c.follow.ensures refl
