use Rattle.nbt_serve.specs.Inner.Passing.{query_in}
use Rattle.nbt_serve.proofs.Never.{free_by}
use Rattle.nbt_serve.proofs.waiting.Waiting.is_free.Goals as goal

pub returns-in-Some : goal.returns-in-Some
returns-in-Some c =
    free_by (query_in c.args.entry.now) c.args.self.now c.in-Some.name.now c.is_clear.result c.is_about.result c.if-is_clear.false c.is_clear.ensures c.in-Some.ensures.found c.is_about.ensures
