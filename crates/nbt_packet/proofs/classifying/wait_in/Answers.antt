use Rattle.std.proofs.Common.{refl, sym}
use Rattle.nbt_packet.proofs.Reasons.{answers}
use Rattle.nbt_packet.proofs.classifying.wait_in.Goals as goal

pub returns-in-None-Some-None-clause-message : goal.returns-in-None-Some-None-clause-message
returns-in-None-Some-None-clause-message c =
    let a = c.in-None-Some-None in
    (refl, record { response = c.requires.0; opcode_is = c.requires.1; unicast = c.is_unicast.ensures.0 c.if-not-is_unicast.false }, _, answers c.args.packet.now a.answer a.is-0 a.is-1 a.is-2, sym c.copy.ensures, refl)
