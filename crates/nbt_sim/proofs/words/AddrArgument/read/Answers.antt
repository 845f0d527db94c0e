use Rattle.nbt_sim.proofs.Spelled.{no_address}
use Rattle.nbt_sim.proofs.words.AddrArgument.read.Goals as goal

pub returns-in_err-ok : goal.returns-in_err-ok
returns-in_err-ok c = λ a. (
  λ e. let none = c.from_residual.ensures in absurd cc,
  λ s. absurd (no_address _ _ c.args.word.now c.from_utf8.result c.ok.result a c.from_utf8.ensures.cases c.ok.ensures.value c.in_err-ok.was s),
)
