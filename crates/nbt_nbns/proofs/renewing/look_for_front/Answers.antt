use Rattle.nbt_nbns.specs.Inner.Renewing.{keeps_front, puts_front, puts_none}
use Rattle.nbt_nbns.proofs.renewing.look_for_front.Goals as goal

pub returns-in_default : goal.returns-in_default
returns-in_default g c = keeps_front

pub returns-in-Ok : goal.returns-in-Ok
returns-in-Ok g c = puts_front c.in-Some.front c.now-at.result c.now-at.new.self c.put_front.new.port c.put_front.new.watcher c.now-at.ensures c.in-Ok.ensures.port c.in-Ok.ensures.watcher

pub returns-in-Err : goal.returns-in-Err
returns-in-Err g c = rw (c.in-Err.ensures.err.0, c.in-Err.ensures.err.1) (puts_none c.now-at.result c.now-at.new.self c.now-at.ensures)
