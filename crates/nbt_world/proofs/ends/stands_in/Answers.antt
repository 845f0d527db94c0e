use Rattle.std.proofs.Common.{get_or, refl}
use Rattle.std.proofs.lemmas.Bool.{false≢true}
use Rattle.std.proofs.lemmas.Option.{slice_get-get_or}
use Rattle.nbt_world.proofs.Finding.{no_addr_more, no_addr}
use Rattle.nbt_world.proofs.ends.stands_in.Goals as goal

pub returns-then-addr-ip : goal.returns-then-addr-ip
returns-then-addr-ip c = (
  λ t. (
    c.loop-addr.addr-index,
    get_or c.args.addrs.now c.loop-addr.addr-index (record { ip = 0; port = 0 }),
    slice_get-get_or c.args.addrs.now c.loop-addr.addr-index (record { ip = 0; port = 0 }) c.loop-addr-test.true,
    c.if-addr-ip.true,
  ),
  λ is. refl,
)

pub loop-addr-preserved : goal.loop-addr-preserved
loop-addr-preserved c = no_addr_more c.args.addrs.now c.loop-addr.addr-index c.args.ip (record { ip = 0; port = 0 }) c.loop-addr.invariant c.loop-addr-test.true c.if-addr-ip.false

pub returns : goal.returns
returns c = (λ t. absurd (false≢true t), λ is. absurd (no_addr c.args.addrs.now c.loop-addr.addr-index c.args.ip c.loop-addr.invariant c.loop-addr-test.false is))
