use Rattle.std.proofs.Common.{arith}
use Rattle.std.specs.String.{string_bytes}
use Rattle.nbt_show.specs.NodeStatus.{IsNameLine}
use Rattle.nbt_show.proofs.Rows.{next_row, all_printed}
use Rattle.nbt_show.proofs.node_status.write_lines.Goals as goal

pub names-preserved : goal.names-preserved
names-preserved c =
    let split = c.in-Some.ensures.cases in
    let line = c.in_ok-write_name_line.ensures in
    let before = string_bytes c.args.out.now in
    let after = string_bytes c.names.out in
    rw line.2 (next_row 18 IsNameLine c.args.names.now c.names.rest.now before after c.in-Some.name.now c.in-Some.others.now line.0 split.0 split.1 (omega (arith, split.2)) line.1 c.names.invariant)

pub returns : goal.returns
returns c = all_printed 18 IsNameLine c.args.names.now c.names.rest.now (string_bytes c.args.out.now) (string_bytes c.names.out) c.in_default.ensures.cases c.names.invariant
