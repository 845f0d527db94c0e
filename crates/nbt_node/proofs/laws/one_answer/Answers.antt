use Rattle.nbt_node.proofs.OneCall.{one_sending, one_opening, one_poll, one_handling}
use Rattle.nbt_node.proofs.laws.one_answer.Goals as goal

pub returns-clause-sending : goal.returns-clause-sending
returns-clause-sending c = λ old a b now name event x y first second. one_sending old now name event a b x y first second

pub returns-clause-opening : goal.returns-clause-opening
returns-clause-opening c = λ old a b now name to wanted x y first second. one_opening old now name to wanted a b x y first second

pub returns-clause-poll : goal.returns-clause-poll
returns-clause-poll c = λ old a b now to other x y first second. one_poll old now a b to other x y first second

pub returns-clause-handling : goal.returns-clause-handling
returns-clause-handling c = λ old a b now from octets t u x y first second. one_handling old now c.one_message_spelled.ensures from octets a b t u x y first second
