use Rattle.std.proofs.Common.{◌∙◌, ℕ, Option, refl, ap, subst, inr}
use Rattle.std.proofs.lemmas.Result.{on_ok_weaker}
use Rattle.nbt_port.specs.Clocks.{SteadyTells, SystemShows, TellsAhead}
use Rattle.nbt_port.specs.Until.{until_of}
use Rattle.nbt_port.specs.declared.ahead.Ahead.{Ahead}
use Rattle.nbt_port.specs.Udp.{PortsValue}
use Rattle.nbt_port.specs.declared.fault.Fault.TheVariants as f
use Rattle.nbt_front.specs.FrontPort.{Fronted}
use Rattle.nbt_nbns.specs.Running.{Nbns, KeepsUntil, KeepsNot}
use Rattle.nbt_nbns.specs.Servers.{StartsKept}
use Rattle.nbt_nbns.specs.Inner.Starting.{staying_of}
use Rattle.nbt_nbns.proofs.Beginning.{begins, of_err}
use Rattle.nbt_nbns.proofs.server.run_locked.Goals as goal

pub returns-clause-ok : goal.returns-clause-ok
returns-clause-ok g c =
    let a = c.args.arguments.now in
    let w = c.keep_over in
    let kept = c.in_ok-kept.field-0.kept in
    let standing = c.in_ok-kept.field-0.standing.items in
    let desk_is = rw c.new-desk.ensures at c.keep.ensures in
    let port : Fronted PortsValue = record { port = c.args.port; desk = c.keep.new.self } in
    let first = staying_of port kept (g.W.Write.contents c.start.new.writer) in
    on_ok_weaker w.result (λ run. begins (StartsKept a c.args.state.now) (λ (x : Nbns (Ahead ℕ)). KeepsUntil (TellsAhead (SteadyTells SystemShows)) a.strict (until_of x.served.server.last a.time) x) a standing
    (g.W.Write.contents c.args.writer.now) (g.W.Write.contents c.start.new.writer) (g.W.Write.contents w.new.writer) port kept (staying_of run.0 run.1 (g.W.Write.contents w.new.writer)) c.in_ok-kept.ensures.ok (rw (c.requires, desk_is) refl) refl
    (subst (λ (u : Option ℕ). KeepsUntil (TellsAhead (SteadyTells SystemShows)) a.strict u first (staying_of run.0 run.1 (g.W.Write.contents w.new.writer))) (c.until_of-until.ensures ∙ ap (λ (n : ℕ). until_of n a.time) c.last.ensures.last) run.2)) w.ensures.ok

pub returns-clause-store : goal.returns-clause-store
returns-clause-store g c = λ failed.
    let a = c.args.arguments.now in
    let w = c.keep_over in
    let kept = c.in_ok-kept.field-0.kept in
    let standing = c.in_ok-kept.field-0.standing.items in
    let desk_is = rw c.new-desk.ensures at c.keep.ensures in
    let port : Fronted PortsValue = record { port = c.args.port; desk = c.keep.new.self } in
    let first = staying_of port kept (g.W.Write.contents c.start.new.writer) in
    let run = of_err _ w.result f.Store failed w.ensures.err in
    inr (begins (StartsKept a c.args.state.now) (λ (x : Nbns (Ahead ℕ)). KeepsNot (TellsAhead (SteadyTells SystemShows)) a.strict (until_of x.served.server.last a.time) f.Store x) a standing
    (g.W.Write.contents c.args.writer.now) (g.W.Write.contents c.start.new.writer) (g.W.Write.contents w.new.writer) port kept (staying_of run.0 run.1 (g.W.Write.contents w.new.writer)) c.in_ok-kept.ensures.ok (rw (c.requires, desk_is) refl) refl
    (subst (λ (u : Option ℕ). KeepsNot (TellsAhead (SteadyTells SystemShows)) a.strict u f.Store first (staying_of run.0 run.1 (g.W.Write.contents w.new.writer))) (c.until_of-until.ensures ∙ ap (λ (n : ℕ). until_of n a.time) c.last.ensures.last) run.2))

pub returns-clause-device : goal.returns-clause-device
returns-clause-device g c = λ failed.
    let a = c.args.arguments.now in
    let w = c.keep_over in
    let kept = c.in_ok-kept.field-0.kept in
    let standing = c.in_ok-kept.field-0.standing.items in
    let desk_is = rw c.new-desk.ensures at c.keep.ensures in
    let port : Fronted PortsValue = record { port = c.args.port; desk = c.keep.new.self } in
    let first = staying_of port kept (g.W.Write.contents c.start.new.writer) in
    let run = of_err _ w.result f.Device failed w.ensures.err in
    begins (StartsKept a c.args.state.now) (λ (x : Nbns (Ahead ℕ)). KeepsNot (TellsAhead (SteadyTells SystemShows)) a.strict (until_of x.served.server.last a.time) f.Device x) a standing
    (g.W.Write.contents c.args.writer.now) (g.W.Write.contents c.start.new.writer) (g.W.Write.contents w.new.writer) port kept (staying_of run.0 run.1 (g.W.Write.contents w.new.writer)) c.in_ok-kept.ensures.ok (rw (c.requires, desk_is) refl) refl
    (subst (λ (u : Option ℕ). KeepsNot (TellsAhead (SteadyTells SystemShows)) a.strict u f.Device first (staying_of run.0 run.1 (g.W.Write.contents w.new.writer))) (c.until_of-until.ensures ∙ ap (λ (n : ℕ). until_of n a.time) c.last.ensures.last) run.2)
