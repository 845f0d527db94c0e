use Rattle.std.proofs.Common.{◌-◌, ◌^◌, ◌≤◌, arith}
use Rattle.std.proofs.lemmas.Nat.{pow_below, pow_pos}
use Rattle.std.proofs.Math.Pow.{pow_mono}
use Rattle.nbt_scan.proofs.words.size_of.Goals as goal

pub pow-requires : goal.pow-requires
pow-requires c = pow_below (32 - c.args.bits) 64 (omega arith)

pub returns-clause-some : goal.returns-clause-some
returns-clause-some c = omega (arith, pow_pos (32 - c.args.bits), c.pow.ensures)

pub returns-clause-most : goal.returns-clause-most
returns-clause-most c =
    let most : 2 ^ (32 - c.args.bits) ≤ 2 ^ 16 = pow_mono {i = 32 - c.args.bits} {j = 16} (omega arith) in
    omega (arith, most, c.pow.ensures)

pub returns-clause-four : goal.returns-clause-four
returns-clause-four c = λ less.
    let least : 2 ^ 2 ≤ 2 ^ (32 - c.args.bits) = pow_mono {i = 2} {j = 32 - c.args.bits} (omega (arith, less)) in
    omega (arith, least, c.pow.ensures)
