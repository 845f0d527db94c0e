use Rattle.nbt_client.proofs.OneTurn.{one_turn}
use Rattle.nbt_client.proofs.laws.one_turn.Goals as goal

pub returns : goal.returns
returns c = λ server want old a b acts also first second s t le later x y e.
    one_turn c.one_answer.ensures.sending c.one_answer.ensures.poll c.one_answer.ensures.handling server want old first second le later acts also s t a b x y e
