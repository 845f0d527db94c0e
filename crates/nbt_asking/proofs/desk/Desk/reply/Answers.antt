use Rattle.nbt_asking.specs.Desk.{is_quiet}
use Rattle.nbt_asking.proofs.Handing.{replied}
use Rattle.nbt_asking.proofs.desk.Desk.reply.Goals as goal

pub returns-then-is_quiet : goal.returns-then-is_quiet
returns-then-is_quiet c = is_quiet (c.is_quiet.ensures.0 c.if-is_quiet.true)

pub returns : goal.returns
returns c =
    replied c.args.self.now c.args.to c.args.octets.now c.reply.new.out.items c.reply.result c.reply.new.self (λ quiet. let yes = c.is_quiet.ensures.1 quiet in let no = c.if-is_quiet.false in absurd cc)
    (record { by_message = c.reply.ensures.spelled; by_nothing = c.reply.ensures.other }) c.reply.ensures.further
