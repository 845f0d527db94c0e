use Rattle.std.proofs.Common.{refl}
use Rattle.nbt_serve.proofs.Leaving.{err_weaker}
use Rattle.nbt_serve.proofs.Taking.{idle_one}
use Rattle.nbt_serve.proofs.turning.take_any.Goals as goal

pub returns-in-Some-clause-ok : goal.returns-in-Some-clause-ok
returns-in-Some-clause-ok g c = rw c.in-Some.is c.take.ensures.ok

pub returns-in-Some-clause-err : goal.returns-in-Some-clause-err
returns-in-Some-clause-err g c = rw c.in-Some.is (err_weaker c.take.result (λ fails. (c.in-Some.from, refl, fails)) c.take.ensures.err)

pub returns-in-None-clause-ok : goal.returns-in-None-clause-ok
returns-in-None-clause-ok g c = rw c.in-None.is (idle_one g.S.Store.does g.C.Clock.tells c.args.store.now c.args.clock.now c.args.server.now c.args.share.now c.args.waiting.now c.args.octets.now c.args.reply.now.items)
