use Rattle.nbt_serve.specs.SambaPort.{HandsOn}
use Rattle.nbt_net.proofs.Fronting.{as_it_is, passes_so, through}
use Rattle.nbt_net.proofs.laws.a_front_moves_no_name_of_an_end.Goals as goal

pub returns-clause-samba : goal.returns-clause-samba
returns-clause-samba g c = λ calls old new chain. through g.P.Port.does (HandsOn g.P.Port.does) (λ old new call did. (did.beneath, did.did, passes_so did.becomes)) calls old new chain

pub returns-clause-strict : goal.returns-clause-strict
returns-clause-strict g c = λ calls old new chain. through g.P.Port.does g.P.Port.does (λ old new call did. (call, did, as_it_is call)) calls old new chain
