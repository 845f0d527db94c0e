use Rattle.std.proofs.Common.{arith}
use Rattle.nbt_world.specs.declared.event.Event.TheVariants.{Stranger}
use Rattle.nbt_sim.specs.Arguments.{first, second, third}
use Rattle.nbt_sim.specs.declared.instruction.Instruction.TheVariants.{Happens}
use Rattle.nbt_sim.proofs.Reading.{coming_read}
use Rattle.nbt_sim.proofs.Texts.{three_texts}
use Rattle.nbt_sim.proofs.instruction.stranger_of.Goals as goal

pub returns-in-Some-2 : goal.returns-in-Some-2
returns-in-Some-2 c =
    let octets = rw c.in-Some-2.is at c.in_ok-octets.ensures in
    coming_read (λ v. Happens (Stranger (first v) (second v) (third v))) _ _ _ _ c.read.result c.in-Some.from c.read-2.result c.in-Some-read.to c.in-Some-2.octets (three_texts c.args.words.now (omega (arith, c.in-len3.len_at_least, c.in-len3.len_below))) c.read.ensures c.in-Some.is c.read-2.ensures c.in-Some-read.is octets
