use Rattle.nbt_text.proofs.ScopedWords.{behind_read, behind_refused, apart_read, apart_refused}
use Rattle.nbt_text.proofs.scoped_word.read_scoped_name.Goals as goal

pub returns-in-Some-clause-name : goal.returns-in-Some-clause-name
returns-in-Some-clause-name c = behind_read c.args.case c.args.word.now c.parted.result.0.now c.in-Some.own.now c.args.scope.now c.read_behind.result (rw c.in-Some.is at c.parted.ensures) c.read_behind.ensures.name

pub returns-in-Some-clause-fault : goal.returns-in-Some-clause-fault
returns-in-Some-clause-fault c = behind_refused c.args.case c.args.word.now c.parted.result.0.now c.in-Some.own.now c.args.scope.now c.read_behind.result (rw c.in-Some.is at c.parted.ensures) c.read_behind.ensures.fault

pub returns-in-None-clause-name : goal.returns-in-None-clause-name
returns-in-None-clause-name c = apart_read c.args.case c.args.word.now c.args.scope.now c.read_name.result (rw c.in-None.is at c.parted.ensures) c.read_name.ensures.name

pub returns-in-None-clause-fault : goal.returns-in-None-clause-fault
returns-in-None-clause-fault c = apart_refused c.args.case c.args.word.now c.args.scope.now c.read_name.result (rw c.in-None.is at c.parted.ensures) c.read_name.ensures.fault
