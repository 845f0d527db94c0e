use Rattle.std.specs.Prelude.{max}
use Rattle.nbt_asking.proofs.Resting.{rests}
use Rattle.nbt_asking.proofs.laws.nothing_is_done_for_nobody.Goals as goal

pub returns : goal.returns
returns g c = λ server at octets logged old new is did. rests g.P.Port.does g.I.Ids.draws server.table (max at server.last) octets logged old new is did
