use Rattle.std.proofs.Common.{◌+◌, ◌-◌, ◌*◌, ◌/◌, ◌^◌, ◌≤◌, ◌<◌, ℕ, sym, subst, arith}
use Rattle.nbt_scan.proofs.Spelling.{ends_within}
use Rattle.nbt_scan.proofs.words.base_of.Goals as goal

pub returns-clause-within : goal.returns-clause-within
returns-clause-within c =
    let ip : c.args.ip < 2 ^ 32 = omega (arith, c.ranges.ip) in
    subst (λ (n : ℕ). c.args.ip / n * n + n ≤ 2 ^ 32) (sym c.requires.size) (ends_within c.args.ip (32 - c.args.bits) ip (omega arith))
