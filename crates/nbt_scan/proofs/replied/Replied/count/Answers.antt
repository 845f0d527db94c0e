use Rattle.std.proofs.Common.{◌≡◌, ◌-◌, List, Bool, subst, count_by, arith}
use Rattle.nbt_scan.proofs.Counting.{missing_and_not}
use Rattle.nbt_scan.proofs.replied.Replied.count.Goals as goal

pub returns : goal.returns
returns c =
    subst (λ (flags : List Bool). c.len.result - c.self.inside.missing ≡ count_by (λ (reply : Bool). reply) flags) c.self.view_is
    (omega (arith, missing_and_not c.self.inside.flags.items, c.self.inside.counted, c.len.ensures))
