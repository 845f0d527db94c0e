use Rattle.std.proofs.Common.{◌∙◌, ℕ, Option, [], refl, ap, subst}
use Rattle.std.proofs.lemmas.Result.{on_ok_weaker}
use Rattle.nbt_port.specs.Clocks.{SteadyTells, SystemShows}
use Rattle.nbt_port.specs.Until.{until_of}
use Rattle.nbt_port.specs.Udp.{PortsValue}
use Rattle.nbt_port.specs.declared.fault.Fault.TheVariants as f
use Rattle.nbt_front.specs.FrontPort.{Fronted}
use Rattle.nbt_nbns.specs.Running.{Nbns, KeepsUntil, KeepsNot, StartsAnew}
use Rattle.nbt_nbns.specs.Inner.Starting.{staying_of}
use Rattle.nbt_nbns.proofs.Beginning.{begins, of_err}
use Rattle.nbt_nbns.proofs.running.run_nbns.Goals as goal

pub returns-clause-ok : goal.returns-clause-ok
returns-clause-ok g c =
    let a = c.args.arguments.now in
    let w = c.keep_over in
    let port : Fronted PortsValue = record { port = c.in_ok-port.port; desk = c.new-desk.result } in
    let first = staying_of port c.in_ok-started.started (g.W.Write.contents c.start.new.writer) in
    on_ok_weaker w.result (λ run. begins (StartsAnew a) (λ (x : Nbns ℕ). KeepsUntil (SteadyTells SystemShows) a.strict (until_of x.served.server.last a.time) x) a [] (g.W.Write.contents c.args.writer.now) (g.W.Write.contents c.start.new.writer) (g.W.Write.contents w.new.writer)
    port c.in_ok-started.started (staying_of run.0 run.1 (g.W.Write.contents w.new.writer)) c.in_ok-started.ensures.ok (rw (c.in_ok-port.ensures.ok, c.new-desk.ensures) refl) refl
    (subst (λ (u : Option ℕ). KeepsUntil (SteadyTells SystemShows) a.strict u first (staying_of run.0 run.1 (g.W.Write.contents w.new.writer))) (c.until_of-until.ensures ∙ ap (λ (n : ℕ). until_of n a.time) c.last.ensures.last) run.2)) w.ensures.ok

pub returns-clause-device : goal.returns-clause-device
returns-clause-device g c = λ failed.
    let a = c.args.arguments.now in
    let w = c.keep_over in
    let port : Fronted PortsValue = record { port = c.in_ok-port.port; desk = c.new-desk.result } in
    let first = staying_of port c.in_ok-started.started (g.W.Write.contents c.start.new.writer) in
    let run = of_err _ w.result f.Device failed w.ensures.err in
    begins (StartsAnew a) (λ (x : Nbns ℕ). KeepsNot (SteadyTells SystemShows) a.strict (until_of x.served.server.last a.time) f.Device x) a [] (g.W.Write.contents c.args.writer.now) (g.W.Write.contents c.start.new.writer) (g.W.Write.contents w.new.writer)
    port c.in_ok-started.started (staying_of run.0 run.1 (g.W.Write.contents w.new.writer)) c.in_ok-started.ensures.ok (rw (c.in_ok-port.ensures.ok, c.new-desk.ensures) refl) refl
    (subst (λ (u : Option ℕ). KeepsNot (SteadyTells SystemShows) a.strict u f.Device first (staying_of run.0 run.1 (g.W.Write.contents w.new.writer))) (c.until_of-until.ensures ∙ ap (λ (n : ℕ). until_of n a.time) c.last.ensures.last) run.2)
