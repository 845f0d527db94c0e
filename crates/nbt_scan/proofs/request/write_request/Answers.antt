use Rattle.std.proofs.Common.{arith}
use Rattle.nbt_name.specs.Scope.{empty}
use Rattle.nbt_scan.proofs.request.write_request.Goals as goal

pub unwrap-name-requires : goal.unwrap-name-requires
unwrap-name-requires c = c.any.ensures.found.1 (omega arith, empty)
