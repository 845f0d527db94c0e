use Rattle.std.proofs.Common.{rules, tests}
use Rattle.std.specs.Prelude.{◌&&◌, nat_lt}
use Rattle.std.proofs.lemmas.Fn.{filter_same}
use Rattle.nbt_name.specs.Wire.{NameValue}
use Rattle.nbt_lease.specs.declared.lease.Lease.{Lease}
use Rattle.nbt_front.specs.FixedNames.{fixed_of}
use Rattle.nbt_front.specs.Standing.{is_left}
use Rattle.nbt_front.proofs.names.FixedNames.retain_left.Goals as goal

pub returns : goal.returns
returns c = filter_same _ (λ (row : NameValue × Lease). nat_lt c.args.at row.1.end && is_left (fixed_of c.args.self.now row.0) row.1) _ (λ x b q k. (search (rules, tests), search rules)) c.args.rows.now.items c.retain.new.self.items c.retain.ensures.filtered
