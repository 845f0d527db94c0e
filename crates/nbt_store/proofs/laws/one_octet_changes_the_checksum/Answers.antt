use Rattle.nbt_store.proofs.Seals.{one_octet, one_chain}
use Rattle.nbt_store.proofs.laws.one_octet_changes_the_checksum.Goals as goal

pub returns-clause-octet : goal.returns-clause-octet
returns-clause-octet c = one_octet

pub returns-clause-chain : goal.returns-clause-chain
returns-clause-chain c = one_chain
