use Rattle.std.proofs.Common.{ap, ◌∙◌}
use Rattle.nbt_packet.specs.Message.{message_of}
use Rattle.nbt_confirm.proofs.Readings.{none_spelled, one_spelled, spelled_by}
use Rattle.nbt_waits.specs.Sending.{leaves}
use Rattle.nbt_waits.proofs.asking.Asking.reply.Goals as goal

pub returns-in-Some-clause-spelled : goal.returns-in-Some-clause-spelled
returns-in-Some-clause-spelled c = λ m spelled.
    c.reply_in.ensures ∙ ap (leaves c.args.now c.args.ip c.args.octets.now c.args.self.now.further) (one_spelled c.read.result c.args.octets.now c.in-Some.message c.read.ensures c.in-Some.is m spelled)

pub returns-in-Some-clause-other : goal.returns-in-Some-clause-other
returns-in-Some-clause-other c = λ none. absurd (none (message_of c.in-Some.message) (spelled_by c.read.result c.args.octets.now c.in-Some.message c.read.ensures c.in-Some.is))

pub returns-in-None-clause-spelled : goal.returns-in-None-clause-spelled
returns-in-None-clause-spelled c = λ m spelled. absurd (none_spelled c.read.result c.args.octets.now c.read.ensures c.in-None.is m spelled)
