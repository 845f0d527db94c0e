use Rattle.std.proofs.Common.{arith}
use Rattle.std.specs.String.{string_bytes}
use Rattle.nbt_sim.proofs.Written.{one_holder_more, nobody}
use Rattle.nbt_sim.proofs.printing.write_list.Goals as goal

pub loop-holder-preserved : goal.loop-holder-preserved
loop-holder-preserved c =
    let comma = c.in_ok-push_str.ensures.bytes in
    let holder = c.in_ok-write_holder-2.ensures in
    one_holder_more c.in-Some.others.now c.loop-holder.holder-index nobody _ (string_bytes c.loop-holder.out) (string_bytes c.push_str-in-loop-holder.new.self) _ (omega (arith, c.loop-holder-test.true)) c.loop-holder.invariant comma holder
