use Rattle.std.proofs.Common.{◌≡◌, ℕ, Option, Some, None, inl, inr}
use Rattle.std.proofs.lemmas.Result.{err_from_is_err_and}
use Rattle.nbt_name.specs.declared.addr.Addr.{Addr}
use Rattle.nbt_port.specs.PortCalls.{PortCall}
use Rattle.nbt_port.specs.Clocks.{MachineTells}
use Rattle.nbt_port.specs.declared.fault.Fault.TheVariants as f
use Rattle.nbt_client.specs.declared.turning.Want.{Want}
use Rattle.nbt_bench.specs.Node.{Running, RunsToItsEnd, IsCutToItsEnd, NodeEndsFor}
use Rattle.nbt_bench.proofs.Beginning.{node_begins}
use Rattle.nbt_port.proofs.Printed.{on_ok}
use Rattle.nbt_bench.proofs.node.run_turns.Goals as goal

no_memory : {P C : Type 0} (does : P → PortCall → P → Type 0) (tells : C → ℕ → C → Type 0) (turns : Option ℕ) (server : Addr) (want : Want) (old new : Running P C) → NodeEndsFor does tells turns server want f.Memory old new → ⊥
no_memory does tells (Some turns) server want old new ends = ends.ended
no_memory does tells None server want old new ends = ends.4

pub returns-in_err-run_for-clause-device : goal.returns-in_err-run_for-clause-device
returns-in_err-run_for-clause-device g c =
    let p = err_from_is_err_and c.from_residual.result c.from_residual.ensures.1 in
    let a = c.args.arguments.now in
    λ same. let is : c.in_err-run_for.field-0.0 ≡ f.Device = cc (p.1, p.2, same) in
    node_begins a (NodeEndsFor g.P.Port.does MachineTells a.turns a.server a.want f.Device) c.args.port.now c.run_for.new.port c.args.clock.now c.start_node-node.new.clock c.run_for.new.clock
    (g.W.Write.contents c.args.writer.now) (g.W.Write.contents c.run_for.new.writer) c.start_node-node.result c.run_for.new.node c.start_node-node.ensures (rw is at c.in_err-run_for.ensures.err)

pub returns-clause-ok : goal.returns-clause-ok
returns-clause-ok g c = on_ok c.tell_end.result c.map_err.result c.map_err.ensures.variant c.tell_end.ensures
    (λ told. let a = c.args.arguments.now in
    node_begins a (RunsToItsEnd g.P.Port.does a) c.args.port.now c.run_for.new.port c.args.clock.now c.start_node-node.new.clock c.run_for.new.clock
    (g.W.Write.contents c.args.writer.now) (g.W.Write.contents c.tell_end.new.writer) c.start_node-node.result c.run_for.new.node c.start_node-node.ensures
    (g.W.Write.contents c.run_for.new.writer, c.in_ok-run_for.ensures.ok, rw (← c.last.ensures) told))

pub returns-in_err-run_for-clause-output : goal.returns-in_err-run_for-clause-output
returns-in_err-run_for-clause-output g c =
    let p = err_from_is_err_and c.from_residual.result c.from_residual.ensures.1 in
    let a = c.args.arguments.now in
    λ same. let is : c.in_err-run_for.field-0.0 ≡ f.Output = cc (p.1, p.2, same) in
    node_begins a (IsCutToItsEnd g.P.Port.does a) c.args.port.now c.run_for.new.port c.args.clock.now c.start_node-node.new.clock c.run_for.new.clock
    (g.W.Write.contents c.args.writer.now) (g.W.Write.contents c.run_for.new.writer) c.start_node-node.result c.run_for.new.node c.start_node-node.ensures (inl (rw is at c.in_err-run_for.ensures.err))

pub returns-clause-output : goal.returns-clause-output
returns-clause-output g c =
    let a = c.args.arguments.now in
    λ same. node_begins a (IsCutToItsEnd g.P.Port.does a) c.args.port.now c.run_for.new.port c.args.clock.now c.start_node-node.new.clock c.run_for.new.clock
    (g.W.Write.contents c.args.writer.now) (g.W.Write.contents c.tell_end.new.writer) c.start_node-node.result c.run_for.new.node c.start_node-node.ensures
    (inr (g.W.Write.contents c.run_for.new.writer, c.in_ok-run_for.ensures.ok))

pub returns-in_err-run_for-clause-memory : goal.returns-in_err-run_for-clause-memory
returns-in_err-run_for-clause-memory g c =
    let p = err_from_is_err_and c.from_residual.result c.from_residual.ensures.1 in
    let a = c.args.arguments.now in
    λ same. let is : c.in_err-run_for.field-0.0 ≡ f.Memory = cc (p.1, p.2, same) in
    no_memory g.P.Port.does MachineTells a.turns a.server a.want
    (record { port = c.args.port.now; clock = c.start_node-node.new.clock; node = c.start_node-node.result; text = g.W.Write.contents c.args.writer.now })
    (record { port = c.run_for.new.port; clock = c.run_for.new.clock; node = c.run_for.new.node; text = g.W.Write.contents c.run_for.new.writer }) (rw is at c.in_err-run_for.ensures.err)
