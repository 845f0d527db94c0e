use Rattle.std.proofs.Common.{arith}
use Rattle.nbt_name.specs.Scope.{empty}
use Rattle.nbt_bench.proofs.demo.fred.Goals as goal

pub unwrap-requires : goal.unwrap-requires
unwrap-requires c = c.new.ensures.found.1 (omega arith, omega arith, empty)
