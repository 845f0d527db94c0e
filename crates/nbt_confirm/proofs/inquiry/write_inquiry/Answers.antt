use Rattle.nbt_confirm.proofs.Readings.{query_spelled}
use Rattle.nbt_confirm.proofs.inquiry.write_inquiry.Goals as goal

pub returns-clause-spells : goal.returns-clause-spells
returns-clause-spells c =
    let done = c.put_query.ensures in
    query_spelled c.args.inquiry.now.id c.args.inquiry.now.name c.put_query.new.out.items done.form done.number done.name
