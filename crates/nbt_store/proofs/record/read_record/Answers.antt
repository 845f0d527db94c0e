use Rattle.std.proofs.Common.{◌∙◌, ap}
use Rattle.nbt_text.specs.Texts.{texts}
use Rattle.nbt_store.proofs.Saying.{record_none, record_found}
use Rattle.nbt_store.proofs.record.read_record.Goals as goal

pub returns-in_default-change_of : goal.returns-in_default-change_of
returns-in_default-change_of c = record_none c.args.form c.args.sum c.args.line.now c.in-Some.body.now (texts c.as_slice.result.now) (rw c.chained.ensures at c.in-Some.ensures.found.0) (ap texts c.as_slice.ensures.value ∙ c.in_ok-words.ensures) (rw c.in_default-change_of.is at c.change_of.ensures)

pub returns : goal.returns
returns c = record_found c.args.form c.args.sum c.args.line.now c.in-Some.body.now (texts c.as_slice.result.now) c.in-Some-change_of.change c.in-Some.next (rw c.chained.ensures at c.in-Some.ensures.found.0) (rw c.chained.ensures at c.in-Some.ensures.found.1) (ap texts c.as_slice.ensures.value ∙ c.in_ok-words.ensures) (rw c.in-Some-change_of.is at c.change_of.ensures)
