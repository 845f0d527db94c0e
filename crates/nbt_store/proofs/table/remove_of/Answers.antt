use Rattle.std.proofs.Common.{rules}
use Rattle.std.specs.Prelude.{not, nat_eq}
use Rattle.std.proofs.lemmas.Fn.{filter_same}
use Rattle.nbt_lease.specs.declared.lease.Lease.{Lease}
use Rattle.nbt_store.proofs.table.remove_of.Goals as goal

pub returns : goal.returns
returns c = filter_same _ (λ (lease : Lease). not (nat_eq lease.addr c.args.addr)) _ (λ x b k called. (search rules, search rules)) c.args.leases.now.items c.retain.new.self.items c.retain.ensures.filtered
