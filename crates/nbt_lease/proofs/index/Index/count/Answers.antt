use Rattle.std.proofs.Common.{length, ap, ◌∙◌}
use Rattle.nbt_lease.proofs.Common.{Entries, rows_of}
use Rattle.nbt_lease.proofs.Flat.{counted}
use Rattle.nbt_lease.proofs.index.Index.count.Goals as goal

pub returns : goal.returns
returns c = c.count.ensures ∙ (counted c.self.inside.members.entries c.self.inside.ends c.self.invariant ∙ ap (λ (es : Entries). length (rows_of es)) c.self.view_is)
