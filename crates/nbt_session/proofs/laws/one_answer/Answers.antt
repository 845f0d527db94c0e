use Rattle.nbt_session.proofs.Streams as streams
use Rattle.nbt_session.proofs.laws.one_answer.Goals as goal

pub returns : goal.returns
returns c = streams.one_answer c.text_is_read.ensures.one_packet c.text_is_read.ensures.no_fault c.one_fault.ensures.one
