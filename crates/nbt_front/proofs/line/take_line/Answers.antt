use Rattle.std.proofs.Common.{Result, Ok, Err}
use Rattle.std.specs.Prelude.{IfErr}
use Rattle.std.proofs.lemmas.Result.{on_ok_weaker}
use Rattle.nbt_front.specs.Files.{IsRefusedBy, passed_over, added, misspelled, barred}
use Rattle.nbt_front.specs.declared.fault.LineFault.{LineFault}
use Rattle.nbt_front.specs.declared.fault.Refused.{Refused}
use Rattle.nbt_front.specs.declared.fault.Refused.TheVariants.{Line, Memory}
use Rattle.nbt_front.proofs.line.take_line.Goals as goal

-- a line is refused by more
if_refused : {T : Type 0} {P Q : LineFault → Type 0} (result : Result T Refused) → ((fault : LineFault) → P fault → Q fault) → IfErr result (IsRefusedBy P) → IfErr result (IsRefusedBy Q)
if_refused (Ok x) more was = tt
if_refused (Err (Line fault)) more was = more fault was
if_refused (Err Memory) more was = tt

pub returns-in_default-clause-ok : goal.returns-in_default-clause-ok
returns-in_default-clause-ok c = passed_over (rw (c.in_default.is, c.said.ensures) at c.in_ok-words.ensures)

pub returns-in-Ok-clause-ok : goal.returns-in-Ok-clause-ok
returns-in-Ok-clause-ok c =
    let said = rw (c.in-Some.is, c.said.ensures) at c.in_ok-words.ensures in
    let spelled = rw (c.as_slice.ensures.value, said.1) at c.in-Ok.ensures.ok in
    on_ok_weaker c.add.result (λ adds. added c.in-Ok.line c.add.new.self said.0 spelled adds) c.add.ensures.ok

pub returns-in-Ok-clause-err : goal.returns-in-Ok-clause-err
returns-in-Ok-clause-err c =
    let said = rw (c.in-Some.is, c.said.ensures) at c.in_ok-words.ensures in
    let spelled = rw (c.as_slice.ensures.value, said.1) at c.in-Ok.ensures.ok in
    if_refused c.add.result (λ fault bars. barred c.in-Ok.line fault said.0 spelled bars) c.add.ensures.err

pub returns-clause-err : goal.returns-clause-err
returns-clause-err c =
    let said = rw (c.in-Some.is, c.said.ensures) at c.in_ok-words.ensures in
    misspelled c.in-Err.fault said.0 (rw (c.as_slice.ensures.value, said.1) at c.in-Err.ensures.err)
