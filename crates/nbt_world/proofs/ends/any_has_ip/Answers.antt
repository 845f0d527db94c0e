use Rattle.std.proofs.Common.{refl}
use Rattle.std.proofs.lemmas.Bool.{false≢true}
use Rattle.nbt_world.proofs.Finding.{addr_here, no_ip_more, no_ip}
use Rattle.nbt_world.proofs.ends.any_has_ip.Goals as goal

pub returns-then-end-ip : goal.returns-then-end-ip
returns-then-end-ip c = (
  λ t. (c.loop-end.end-index, c.end-item.result.addr, addr_here c.args.nodes.now c.loop-end.end-index c.end-item.result c.loop-end-test.true c.end-item.is, c.if-end-ip.true),
  λ is. refl,
)

pub loop-end-preserved : goal.loop-end-preserved
loop-end-preserved c = no_ip_more c.args.nodes.now c.loop-end.end-index c.end-item.result c.args.ip c.loop-end.invariant c.loop-end-test.true c.end-item.is c.if-end-ip.false

pub returns : goal.returns
returns c = (λ t. absurd (false≢true t), λ is. absurd (no_ip c.args.nodes.now c.loop-end.end-index c.args.ip c.loop-end.invariant c.loop-end-test.false is))
