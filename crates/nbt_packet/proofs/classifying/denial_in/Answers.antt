use Rattle.std.proofs.Common.{refl, sym, ◌∙◌}
use Rattle.nbt_packet.proofs.Reasons.{answers}
use Rattle.nbt_packet.proofs.classifying.denial_in.Goals as goal

pub returns-in-None-Some-None-clause-message : goal.returns-in-None-Some-None-clause-message
returns-in-None-Some-None-clause-message c =
    let a = c.in-None-Some-None in
    let rcode = c.rcode-rcode.ensures in (
      refl,
      record { response = c.requires.0; opcode_is = c.requires.1; unicast = c.is_unicast.ensures.0 c.if-not-is_unicast.false },
      rcode,
      λ e. c.requires.2 (sym rcode ∙ e),
      (_, answers c.args.packet.now a.answer a.is-0 a.is-1 a.is-2, sym c.copy.ensures),
    )
