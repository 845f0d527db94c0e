-- From the seventh refusal in a row on it is five minutes.
use Rattle.std.proofs.Common.{◌≡◌, ℕ, ◌-◌, ◌*◌, ◌^◌, ◌≤◌, sym, arith}
use Rattle.std.proofs.Math.Nat.{min-eq_right, pow-le-pow_right}
use Rattle.nbt_host.specs.Goals.{back_off}

pub five_minutes : (times : ℕ) → 7 ≤ times → 300000 ≡ back_off times
five_minutes times many =
    let base : 1 ≤ 2 = omega arith in
    let six : 6 ≤ times - 1 = omega (arith, many) in
    let big : 2 ^ 6 ≤ 2 ^ (times - 1) = pow-le-pow_right base six in
    let far : 300000 ≤ 5000 * 2 ^ (times - 1) = omega (arith, big) in
    sym (min-eq_right far)
