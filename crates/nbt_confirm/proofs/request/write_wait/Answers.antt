use Rattle.nbt_confirm.proofs.Readings.{wait_spelled}
use Rattle.nbt_confirm.proofs.request.write_wait.Goals as goal

pub returns-clause-spells : goal.returns-clause-spells
returns-clause-spells c =
    let done = c.put_wait.ensures in
    wait_spelled c.args.request.now.id c.flags_of.result c.args.request.now.name c.args.seconds c.put_wait.new.out.items done.form done.number done.seconds_fit done.name
