use Rattle.std.proofs.Common.{◌≡◌, Some, false, arith}
use Rattle.std.specs.List.{slice_get}
use Rattle.nbt_scan.proofs.Counting.{one_less}
use Rattle.nbt_scan.proofs.replied.Replied.mark.Goals as goal

pub overflow_sub-self : goal.overflow_sub-self
overflow_sub-self c =
    let missing : slice_get c.self.inside.flags.items c.args.place ≡ Some false = cc in
    omega (arith, one_less c.self.inside.flags.items c.args.place missing, c.self.inside.counted)

pub invariant_of-self-inside : goal.invariant_of-self-inside
invariant_of-self-inside c =
    let missing : slice_get c.self.inside.flags.items c.args.place ≡ Some false = cc in
    (omega (arith, one_less c.self.inside.flags.items c.args.place missing, c.self.inside.counted), tt)
