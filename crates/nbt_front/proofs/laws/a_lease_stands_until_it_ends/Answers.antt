use Rattle.nbt_front.proofs.Decided.{leased_is_refused}
use Rattle.nbt_front.proofs.Rulings.{leased_query_passes, leased_release_passes}
use Rattle.nbt_front.proofs.laws.a_lease_stands_until_it_ends.Goals as goal

pub returns-clause-refused : goal.returns-clause-refused
returns-clause-refused c = leased_is_refused

pub returns-clause-queried : goal.returns-clause-queried
returns-clause-queried c = λ desk now ip id name leased. leased_query_passes desk now ip id name leased

pub returns-clause-released : goal.returns-clause-released
returns-clause-released c = λ desk now ip id name kind addr leased. leased_release_passes desk now ip id name kind addr leased
