use Rattle.std.specs.Prelude.{max}
use Rattle.nbt_asking.proofs.Keeping.{none_put, none_called}
use Rattle.nbt_asking.proofs.laws.our_nodes_have_no_further_address.Goals as goal

pub returns-clause-attended : goal.returns-clause-attended
returns-clause-attended g c = λ server at octets entry logged old new empty own did.
    none_put g.P.Port.does g.I.Ids.draws server.table (max at server.last) octets entry logged old new c.a_node_of_ours_has_no_further_address.ensures empty own did

pub returns-clause-called : goal.returns-clause-called
returns-clause-called g c = λ old call new empty did. none_called g.P.Port.does g.P.TellsFlags.told old call new empty did
