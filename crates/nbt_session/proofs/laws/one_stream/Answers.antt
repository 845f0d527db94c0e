use Rattle.nbt_session.proofs.Streams as streams
use Rattle.nbt_session.proofs.laws.one_stream.Goals as goal

pub returns : goal.returns
returns c = streams.one_stream c.text_is_read.ensures.one_packet
