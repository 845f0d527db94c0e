use Rattle.std.proofs.Common.{◌∙◌, sym}
use Rattle.nbt_packet.specs.Message.{message_if}
use Rattle.nbt_node.proofs.Reading.{says_read}
use Rattle.nbt_host.proofs.Receiving.{took_nothing, took_other, took_all}
use Rattle.nbt_host.proofs.release_hearing.take_from.Goals as goal

pub returns-in_default : goal.returns-in_default
returns-in_default c = took_nothing c.args.server c.args.from c.args.octets.now c.args.releases.now c.in_default.is

pub returns-then-not-eq : goal.returns-then-not-eq
returns-then-not-eq c = took_other c.args.server c.args.from c.in-Some.from c.args.octets.now c.args.releases.now c.in-Some.is (sym c.eq.ensures ∙ c.if-not-eq.true)

pub returns : goal.returns
returns c =
    rw c.take_all.ensures (took_all c.args.server c.args.from c.in-Some.from c.args.octets.now (message_if c.read.result) c.args.releases.now c.in-Some.is (sym c.eq.ensures ∙ c.if-not-eq.false)
    (says_read c.read.result c.args.octets.now c.read.ensures))
