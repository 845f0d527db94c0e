use Rattle.std.proofs.Common.{◌∙◌, ap}
use Rattle.nbt_text.specs.Texts.{texts}
use Rattle.nbt_store.proofs.Saying.{head_none, head_found}
use Rattle.nbt_store.proofs.header.read_head.Goals as goal

pub returns-in_default-head_in : goal.returns-in_default-head_in
returns-in_default-head_in c = head_none c.args.line.now c.in-Some.body.now (texts c.as_slice.result.now) c.head_in.result c.in-Some.ensures.found.0 (ap texts c.as_slice.ensures.value ∙ c.in_ok-words.ensures) c.head_in.ensures c.in_default-head_in.is

pub returns : goal.returns
returns c = head_found c.args.line.now c.in-Some.body.now (texts c.as_slice.result.now) c.head_in.result c.in-Some-head_in.head c.in-Some.sum c.in-Some.ensures.found.0 c.in-Some.ensures.found.1 (ap texts c.as_slice.ensures.value ∙ c.in_ok-words.ensures) c.head_in.ensures c.in-Some-head_in.is
