use Rattle.nbt_asking.specs.Port.{holds_back, leaves}
use Rattle.nbt_asking.proofs.port.AskingPortPort.send.Goals as goal

pub returns-in-HeldBack-clause-does : goal.returns-in-HeldBack-clause-does
returns-in-HeldBack-clause-does g c = let replies = rw c.in-HeldBack.is at c.reply.ensures in rw (← c.self.view_is) (holds_back c.args.to c.args.octets.now c.reply.new.self replies)

pub returns-in-Changed-clause-does : goal.returns-in-Changed-clause-does
returns-in-Changed-clause-does g c =
    let replies = rw c.in-Changed.is at c.reply.ensures in
    let does = rw c.as_slice.ensures.value at c.send.ensures.does in
    rw (← c.self.view_is) (leaves c.send.result c.args.to c.args.octets.now c.reply.new.out.items c.send.new.self c.reply.new.self replies does)

pub returns-in-AsItIs-clause-does : goal.returns-in-AsItIs-clause-does
returns-in-AsItIs-clause-does g c =
    let replies = rw c.in-AsItIs.is at c.reply.ensures in
    rw (← c.self.view_is) (leaves c.send-in-AsItIs.result c.args.to c.args.octets.now c.args.octets.now c.send-in-AsItIs.new.self c.reply.new.self replies c.send-in-AsItIs.ensures.does)
