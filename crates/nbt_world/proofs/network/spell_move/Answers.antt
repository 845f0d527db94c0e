use Rattle.std.proofs.Common.{refl, sym, subst}
use Rattle.std.proofs.lemmas.Option.{none-some, same_Some}
use Rattle.nbt_packet.specs.Message.{MessageValue, message_of}
use Rattle.nbt_world.specs.Step.{MovesName}
use Rattle.nbt_world.proofs.network.spell_move.Goals as goal

pub returns-in-Some : goal.returns-in-Some
returns-in-Some c =
    let m = message_of c.in-Some.message in (
      λ t. (m, (c.in-Some.ensures m).0 refl, c.moves_name.ensures.0 t),
      λ x. c.moves_name.ensures.1 (subst (λ (k : MessageValue). MovesName k) (sym (same_Some m x.0 ((c.in-Some.ensures x.0).1 x.1))) x.2),
    )

pub returns-in-None : goal.returns-in-None
returns-in-None c = (λ t. absurd cc, λ x. absurd (none-some x.0 ((c.in-None.ensures x.0).1 x.1)))
