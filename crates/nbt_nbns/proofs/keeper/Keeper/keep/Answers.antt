use Rattle.std.proofs.Common.{sym}
use Rattle.std.proofs.lemmas.Bool.{false≢true}
use Rattle.nbt_nbns.specs.Keeping.{text_of}
use Rattle.nbt_nbns.proofs.Looking.{early_look}
use Rattle.nbt_nbns.proofs.keeper.Keeper.keep.Goals as goal

pub returns-then-not-is_due : goal.returns-then-not-is_due
returns-then-not-is_due g c =
    early_look g.L.Place.puts g.L.Place.refuses (g.T.Report.says c.args.report.now c.args.server.now c.args.dates.now c.args.now) c.args.now c.args.self.now c.self.inside.looked (text_of c.self.inside.text) c.self.inside.place (sym c.self.view_is)
    (λ due. false≢true (c.if-not-is_due.ensures.1 due))
