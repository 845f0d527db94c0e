-- An end begins: a node, a server, and either of them over this machine.
use Rattle.std.proofs.Common.{◌≡◌, ◌≢◌, ℕ, List, Option, refl, ap, subst}
use Rattle.nbt_name.specs.declared.addr.Addr.{Addr}
use Rattle.nbt_node.specs.Calls.{started}
use Rattle.nbt_node.specs.Node.{NodeValue, slots_most}
use Rattle.nbt_lease.specs.Config.{ConfigValue}
use Rattle.nbt_server.specs.Serving.{ServerValue}
use Rattle.nbt_server.specs.Calls.{ServerStarts}
use Rattle.nbt_port.specs.Clocks.{MachineTells}
use Rattle.nbt_port.specs.Udp.{UdpValue}
use Rattle.nbt_bench.specs.Here.{Here}
use Rattle.nbt_bench.specs.Node.{Running, NodeBegins}
use Rattle.nbt_bench.specs.Serve.{Serving, Begins}
use Rattle.nbt_bench.specs.declared.node.NodeArguments.{NodeArguments}

pub node_begins : {P : Type 0} (a : NodeArguments) (goes : Running P ℕ → Running P ℕ → Type 0) (old_port port : P) (old_clock mid_clock clock : ℕ) (old_text text : Option (List ℕ)) (first node : NodeValue)
    → ((now : ℕ) × MachineTells old_clock now mid_clock × (first ≡ started slots_most a.bind a.server a.config now))
    → goes (record { port = old_port; clock = mid_clock; node = first; text = old_text }) (record { port = port; clock = clock; node = node; text = text })
    → NodeBegins a goes old_port old_clock old_text port clock text
node_begins a goes old_port port old_clock mid_clock clock old_text text first node begun run = record {
  start = begun.0;
  node = node;
  clock_told = (refl, begun.1.1);
  goes_on = subst (λ (t : ℕ). goes (record { port = old_port; clock = t; node = started slots_most a.bind a.server a.config begun.0; text = old_text }) (record { port = port; clock = clock; node = node; text = text })) begun.1.0
      (subst (λ (v : NodeValue). goes (record { port = old_port; clock = mid_clock; node = v; text = old_text }) (record { port = port; clock = clock; node = node; text = text })) begun.2 run);
}

pub server_begins : {P C : Type 0} (tells : C → ℕ → C → Type 0) (config : ConfigValue) (goes : Serving P C → Serving P C → Type 0) (old_port port : P) (old_clock mid_clock clock : C) (start : ℕ) (first last : ServerValue)
    → tells old_clock start mid_clock → ServerStarts config start first → goes (record { port = old_port; clock = mid_clock; server = first }) (record { port = port; clock = clock; server = last })
    → Begins tells config goes old_port old_clock port clock
server_begins tells config goes old_port port old_clock mid_clock clock start first last told new run = record {
  start = start;
  started_clock = mid_clock;
  first = first;
  last = last;
  clock_told = told;
  starts = new;
  goes_on = run;
}

pub begins_here : (bind : Addr) (goes : UdpValue → ℕ → UdpValue → ℕ → Type 0) (old_port port : UdpValue) (old_clock clock : ℕ) → old_port ≡ record { addr = bind; failures = 0 } → old_clock ≢ 0 → goes old_port old_clock port clock
    → Here bind goes
begins_here bind goes old_port port old_clock clock bound readable run = record {
  old_port = old_port;
  port = port;
  old_clock = old_clock;
  clock = clock;
  bound = ap (λ (p : UdpValue). p.addr) bound;
  is_readable = readable;
  goes_on = run;
}
