use Rattle.std.proofs.Common.{◌≤◌, length, rules}
use Rattle.nbt_front.specs.Files.{full}
use Rattle.nbt_front.specs.Numbers.{names_most}
use Rattle.nbt_front.proofs.names.FixedNames.joined.Goals as goal

pub returns-then-len-ge-NAMES_MOST-clause-err : goal.returns-then-len-ge-NAMES_MOST-clause-err
returns-then-len-ge-NAMES_MOST-clause-err c =
    let many : names_most ≤ length c.args.self.now = search rules in
    rw c.in-None.ensures.none (full c.args.line.now many)
