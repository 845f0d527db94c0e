use Rattle.std.proofs.lemmas.List.{nil_from_length}
use Rattle.std.specs.String.{string_bytes}
use Rattle.nbt_log.specs.Hosts.{PrintsHost}
use Rattle.nbt_log.specs.Inner.Casing.{IsClearIn}
use Rattle.nbt_text.proofs.Listing.{one_more, all_listed}
use Rattle.nbt_log.proofs.hosts.write_hosts.Goals as goal

pub rows-preserved : goal.rows-preserved
rows-preserved c =
    let line = c.in_ok-write_row.ensures in
    rw line.2 (one_more (PrintsHost (IsClearIn c.args.fixed.now c.args.cases.now) c.args.now) c.args.rows.now c.rows.rest.now c.in-Some.others.now c.in-Some.row.now (string_bytes c.args.out.now) (string_bytes c.rows.out) line.0 c.in-Some.ensures.cases.0 line.1 c.rows.invariant)

pub returns : goal.returns
returns c = all_listed (PrintsHost (IsClearIn c.args.fixed.now c.args.cases.now) c.args.now) c.args.rows.now c.rows.rest.now (string_bytes c.args.out.now) (string_bytes c.rows.out) (nil_from_length c.rows.rest.now c.in_default.ensures.cases) c.rows.invariant
