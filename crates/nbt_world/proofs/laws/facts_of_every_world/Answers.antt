use Rattle.nbt_world.proofs.Following.{claims_covered, open_fresh, requests_ended}
use Rattle.nbt_world.proofs.Safe.{is_safe}
use Rattle.nbt_world.proofs.laws.facts_of_every_world.Goals as goal

pub returns-clause-sound : goal.returns-clause-sound
returns-clause-sound c = λ world kept server up. (kept.server server up).sound

pub returns-clause-timely : goal.returns-clause-timely
returns-clause-timely c = λ world kept. kept.clocks.kept_timely

pub returns-clause-covered : goal.returns-clause-covered
returns-clause-covered c = claims_covered

pub returns-clause-beside : goal.returns-clause-beside
returns-clause-beside c = λ world kept on. (kept.claims on).beside

pub returns-clause-fresh : goal.returns-clause-fresh
returns-clause-fresh c = open_fresh c.rest_outlasts_datagrams.ensures.between

pub returns-clause-ended : goal.returns-clause-ended
returns-clause-ended c = requests_ended c.rest_outlasts_datagrams.ensures.between

pub returns-clause-safe : goal.returns-clause-safe
returns-clause-safe c = is_safe
