use Rattle.std.specs.Prelude.{max}
use Rattle.nbt_asking.proofs.Keeping.{attends_keeps, call_keeps}
use Rattle.nbt_asking.proofs.laws.a_further_address_was_confirmed.Goals as goal

pub returns-clause-attended : goal.returns-clause-attended
returns-clause-attended g c = λ so server at octets entry logged old new are is did. attends_keeps so g.P.Port.does g.I.Ids.draws server.table (max at server.last) octets entry logged old new is did are

pub returns-clause-called : goal.returns-clause-called
returns-clause-called g c = λ so old call new are did. call_keeps so g.P.Port.does g.P.TellsFlags.told old call new did are
