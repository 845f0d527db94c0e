use Rattle.std.specs.String.{string_bytes}
use Rattle.nbt_log.proofs.Drafting.{whole_draft}
use Rattle.nbt_log.proofs.draft.Draft.into_text.Goals as goal

pub returns : goal.returns
returns c =
    whole_draft c.args.self c.self.inside.printer c.self.inside.at c.self.inside.rows.items c.self.inside.noted c.self.inside.done (string_bytes c.self.inside.text) c.self.view_is c.requires c.self.invariant
