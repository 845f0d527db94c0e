use Rattle.nbt_sim.specs.Script.{happens, looks_up, looks_back, tells_timely}
use Rattle.nbt_sim.proofs.script.follow.Goals as goal

pub returns-in-Advance : goal.returns-in-Advance
returns-in-Advance c = rw (c.in-Some.is, c.in-Advance.is) c.drift.ensures

pub returns-in-Ok : goal.returns-in-Ok
returns-in-Ok c = rw (c.in-Some.is, c.in-Happens.is) (happens c.in-Happens.event c.in-Ok.outcome c.in-Some.world c.step.new.self c.in-Ok.ensures.step)

pub returns-in-Holders : goal.returns-in-Holders
returns-in-Holders c = rw (c.in-Some.is, c.in-Holders.is) (looks_up c.in-Holders.name c.holders.result c.in-Some.world (record { exactly = c.holders.ensures.exactly; in_order = c.holders.ensures.in_order }))

pub returns-in-Kept : goal.returns-in-Kept
returns-in-Kept c = rw (c.in-Some.is, c.in-Kept.is, c.kept.ensures) (looks_back c.in-Some.world)

pub returns-in-Timely : goal.returns-in-Timely
returns-in-Timely c = rw (c.in-Some.is, c.in-Timely.is, c.timely.ensures.told) (tells_timely c.in-Some.world)
