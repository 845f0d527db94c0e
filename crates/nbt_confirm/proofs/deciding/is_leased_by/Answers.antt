use Rattle.std.proofs.Common.{◌∙◌, sym}
use Rattle.nbt_lease.specs.Lease.{leases_at}
use Rattle.nbt_confirm.proofs.Claimed.{leased_by_first}
use Rattle.nbt_confirm.proofs.deciding.is_leased_by.Goals as goal

pub returns-in-Some : goal.returns-in-Some
returns-in-Some c = leased_by_first c.args.holder (leases_at c.args.now c.args.table.now.rows c.args.name.now) c.next.new.self c.in-Some.lease (sym c.members.ensures.members ∙ c.in-Some.ensures.steps) c.is_unique_of.result c.is_unique_of.ensures
