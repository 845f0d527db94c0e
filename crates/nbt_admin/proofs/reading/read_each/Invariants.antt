use Rattle.std.proofs.Common.{drop}
use Rattle.nbt_admin.specs.Reading.{Each}
use Rattle.nbt_admin.proofs.reading.read_each.Given as goal

abbrev pub invariant-loop-text : goal.invariant-loop-text
invariant-loop-text g l = (r : _) → Each (g.R.ReadEach.reads l.reader) l.values.items (drop l.text-index l.texts) r → Each (g.R.ReadEach.reads l.reader) l.fn.before.items l.texts r
