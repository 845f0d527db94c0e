use Rattle.std.proofs.Common.{rules, tests}
use Rattle.std.specs.Prelude.{not, nat_eq, ◌&&◌}
use Rattle.std.proofs.lemmas.Fn.{filter_same}
use Rattle.nbt_name.specs.Wire.{NameValue, same_name}
use Rattle.nbt_lease.specs.declared.lease.Lease.{Lease}
use Rattle.nbt_front.proofs.standing.take_out.Goals as goal

pub returns : goal.returns
returns c =
    filter_same _ (λ (row : NameValue × Lease). not (same_name row.0 c.args.name.now && nat_eq row.1.addr c.args.addr)) _ (λ x b q k. (search (rules, tests), search rules)) c.args.rows.now.items c.retain.new.self.items c.retain.ensures.filtered
