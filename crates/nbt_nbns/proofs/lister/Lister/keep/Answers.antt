use Rattle.std.proofs.Common.{sym}
use Rattle.std.proofs.lemmas.Bool.{false≢true}
use Rattle.nbt_log.specs.Drafts.{listing_of}
use Rattle.nbt_nbns.specs.Keeping.{text_of}
use Rattle.nbt_nbns.proofs.Listed.{early_list}
use Rattle.nbt_nbns.proofs.lister.Lister.keep.Goals as goal

pub returns-then-not-is_due : goal.returns-then-not-is_due
returns-then-not-is_due g c =
    early_list g.L.Place.puts g.L.Place.refuses (listing_of c.args.listing.now) c.args.server.now.table.rows c.args.now c.args.self.now c.self.inside.looked c.self.inside.draft (text_of c.self.inside.text) c.self.inside.place (sym c.self.view_is)
    (λ due. false≢true (c.if-not-is_due.ensures.1 due))
