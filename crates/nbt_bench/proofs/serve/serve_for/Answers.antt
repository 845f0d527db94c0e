use Rattle.std.proofs.Common.{refl}
use Rattle.std.proofs.lemmas.Result.{on_ok_weaker}
use Rattle.nbt_port.proofs.Outcomes.{stays_up}
use Rattle.nbt_port.proofs.Printed.{ok_before}
use Rattle.nbt_bench.proofs.serve.serve_for.Goals as goal

pub returns-in_err-counts-in-Some-clause-device : goal.returns-in_err-counts-in-Some-clause-device
returns-in_err-counts-in-Some-clause-device g c = rw c.in-Some.is (λ same. (c.in_err-counts-in-Some.ensures.err, refl))

pub returns-in_ok-map_err-in-Some-clause-ok : goal.returns-in_ok-map_err-in-Some-clause-ok
returns-in_ok-map_err-in-Some-clause-ok g c = rw c.in-Some.is (
  c.in_ok-counts-in-Some.counts,
  c.in_ok-counts-in-Some.ensures.ok,
  ok_before c.print_counts.result c.map_err.result c.map_err.ensures.variant _ c.in_ok-map_err-in-Some.was c.print_counts.ensures,
)

pub returns-in_err-map_err-in-Some-clause-output : goal.returns-in_err-map_err-in-Some-clause-output
returns-in_err-map_err-in-Some-clause-output g c = rw c.in-Some.is (λ same. (c.in_ok-counts-in-Some.counts, c.in_ok-counts-in-Some.ensures.ok))

pub returns-in_err-map_err-in-None-clause-output : goal.returns-in_err-map_err-in-None-clause-output
returns-in_err-map_err-in-None-clause-output g c = rw c.in-None.is (λ same. refl)

pub returns-in_ok-map_err-in-None-clause-ok : goal.returns-in_ok-map_err-in-None-clause-ok
returns-in_ok-map_err-in-None-clause-ok g c = rw c.in-None.is (on_ok_weaker c.serve_on.result (stays_up _ _ _ _ _) c.serve_on.ensures.ok)

pub returns-in_ok-map_err-in-None-clause-device : goal.returns-in_ok-map_err-in-None-clause-device
returns-in_ok-map_err-in-None-clause-device g c = rw c.in-None.is (λ same. rw same at c.serve_on.ensures.err)

pub returns-in_ok-map_err-in-None-clause-output : goal.returns-in_ok-map_err-in-None-clause-output
returns-in_ok-map_err-in-None-clause-output g c = λ same. let cut = rw same at c.serve_on.ensures.err in absurd cut.4

pub returns-in_ok-map_err-in-None-clause-memory : goal.returns-in_ok-map_err-in-None-clause-memory
returns-in_ok-map_err-in-None-clause-memory g c = λ same. let cut = rw same at c.serve_on.ensures.err in cut.4
