use Rattle.std.proofs.Common.{◌≡◌, ℕ, ◌∙◌, subst, rules}
use Rattle.std.proofs.lemmas.Result.{IfOk-weaker}
use Rattle.nbt_port.specs.Udp.{UdpValue, UdpDoes}
use Rattle.nbt_host.specs.declared.watching.WatchedClocks.{WatchedClocks}
use Rattle.nbt_host.specs.Sleeping.{unwatched}
use Rattle.nbt_host.specs.Running.{HostsOver, HostsHere, TellsHere, LooksHere}
use Rattle.nbt_host.proofs.running.run_host.Goals as goal

pub returns-clause-ok : goal.returns-clause-ok
returns-clause-ok g c =
    let a = c.args.arguments.now in
    let at = c.local_of-at.result in
    let first : UdpValue = record { addr = a.bind; failures = 0 } in
    let watch : WatchedClocks ℕ ℕ = unwatched c.in_ok-steady.steady c.in_ok-day.day c.in_ok-salt.salt in
    let bound : c.in_ok-port.port ≡ first = search rules in
    let port_is : c.watch.new.self ≡ first = c.watch.ensures ∙ bound in
    let old_text = g.W.Write.contents c.args.writer.now in
    let text = g.W.Write.contents c.host_over.new.writer in
    IfOk-weaker c.host_over.result (λ all. HostsOver UdpDoes TellsHere LooksHere at a all c.watch.new.self watch old_text c.host_over.new.port text) (λ all. HostsHere a all old_text text)
    (λ all run. (
      at,
      c.in_ok-steady.steady,
      c.in_ok-day.day,
      c.in_ok-salt.salt,
      c.host_over.new.port,
      c.in_ok-steady.ensures.ok,
      subst (λ (p : UdpValue). HostsOver UdpDoes TellsHere LooksHere at a all p watch old_text c.host_over.new.port text) port_is run,
    ))
    c.host_over.ensures.ok
