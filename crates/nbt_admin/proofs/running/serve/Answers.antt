use Rattle.nbt_admin.proofs.running.serve.Goals as goal

pub returns-then-check-clause-done : goal.returns-then-check-clause-done
returns-then-check-clause-done g c = rw c.if-check.true c.check_start.ensures.done

pub returns-else-check-clause-done : goal.returns-else-check-clause-done
returns-else-check-clause-done g c = rw c.if-check.false c.serve_on.ensures.done
