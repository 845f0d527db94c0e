use Rattle.nbt_c.proofs.Common.{message_if, told_of, says_read, at_least}
use Rattle.nbt_c.proofs.Heard.{heard_as}
use Rattle.nbt_c.proofs.hearing.handle_and_answer.Goals as goal

pub returns-clause-ok : goal.returns-clause-ok
returns-clause-ok c =
    let message = message_if c.args.message.now in let told = told_of c.in_ok-event.event in let own = c.handle.new.out.items in
    let says = says_read c.args.message.now c.args.octets.now c.requires.spells in
    heard_as c.args.node.now c.args.now c.args.from c.args.octets.now c.handle.new.self message told own (told_of c.answer.result) c.answer.new.out.items
    c.requires.moment (at_least c.in_ok-event.ensures.refused) says (c.in_ok-event.ensures.ok c.args.octets.now says) c.answer.ensures.told c.answer.ensures.octets
