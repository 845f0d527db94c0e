use Rattle.std.proofs.Common.{rules}
use Rattle.nbt_store.proofs.Spelled.{no_address, host_none, host_one, host_other}
use Rattle.nbt_store.specs.Words.{end_of}
use Rattle.nbt_store.proofs.word.HostWord.read.Goals as goal

pub returns-in_err-ok : goal.returns-in_err-ok
returns-in_err-ok c = λ ip. (
  λ e. let none = c.from_residual.ensures in absurd cc,
  λ s. absurd (no_address _ _ c.args.word.now c.from_utf8.result c.ok.result (end_of ip) c.from_utf8.ensures.cases c.ok.ensures.value c.in_err-ok.was s),
)

pub returns-in_err-end : goal.returns-in_err-end
returns-in_err-end c = λ ip. host_none c.args.word.now c.parse_address.result _ ip (search rules) c.in_err-end.was (search rules)

pub returns-then-end-eq-NAME_SERVICE : goal.returns-then-end-eq-NAME_SERVICE
returns-then-end-eq-NAME_SERVICE c = λ ip. host_one c.args.word.now c.parse_address.result c.in_ok-end.end ip (search rules) c.in_ok-end.was (search rules)

pub returns-else-end-eq-NAME_SERVICE : goal.returns-else-end-eq-NAME_SERVICE
returns-else-end-eq-NAME_SERVICE c = λ ip. host_other c.args.word.now c.parse_address.result c.in_ok-end.end ip (search rules) c.in_ok-end.was (search rules)
