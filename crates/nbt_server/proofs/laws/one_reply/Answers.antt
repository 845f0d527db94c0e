use Rattle.nbt_server.proofs.OneServing.{one_reply}
use Rattle.nbt_server.proofs.laws.one_reply.Goals as goal

pub returns : goal.returns
returns c = λ server now ip octets r s x y sound.
    one_reply server now ip octets
    (record {
      grant = λ name a p q u v. c.one_case_stands.ensures.one_grant server.table now name a p q u v sound;
      release = λ name addr p q u v. c.one_case_stands.ensures.one_release server.table now name addr p q u v sound;
    })
    (c.one_message_spelled.ensures octets) r s x y
