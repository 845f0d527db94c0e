use Rattle.std.proofs.Common.{rules}
use Rattle.std.proofs.lemmas.Result.{err_from_is_err_and}
use Rattle.nbt_lease.specs.Inner.Index.{members_of}
use Rattle.nbt_store.specs.Lines.{whole_lines}
use Rattle.nbt_store.proofs.WholeLines.{all_read, bad_behind, none_read, one_more_read}
use Rattle.nbt_store.proofs.reading.read_changes.Goals as goal

pub lines-init : goal.lines-init
lines-init c = record { so_far = none_read c.args.form c.args.first (whole_lines c.args.octets.now) (members_of c.args.members.now.entries) c.requires.nothing c.requires.none; names = c.requires.names }

pub lines-preserved : goal.lines-preserved
lines-preserved c =
    let made = c.in_ok-now.ensures.made in record {
      so_far = one_more_read c.args.form c.args.first.sum c.args.first.times (whole_lines c.args.octets.now) (whole_lines c.lines.rest.now) (whole_lines c.in-Some.others.now) c.in-Some.line.now (members_of c.lines.members.entries) (members_of c.read_change.new.members.entries)
          c.lines.now _ made.0 c.lines.invariant.so_far c.in-Some.ensures.line made.1 made.2 made.3 made.4 made.5;
      names = c.in_ok-now.ensures.names;
    }

pub returns-in_err-now-clause-refused : goal.returns-in_err-now-clause-refused
returns-in_err-now-clause-refused c =
    let p = err_from_is_err_and c.from_residual.result c.from_residual.ensures.1 in
    rw (p.1, p.2) (bad_behind c.args.form c.args.first.sum c.args.first.times (whole_lines c.args.octets.now) (whole_lines c.lines.rest.now) (whole_lines c.in-Some.others.now) c.in-Some.line.now (members_of c.lines.members.entries) c.lines.now c.in_err-now.field-0.0
    c.lines.invariant.so_far c.in-Some.ensures.line c.in_err-now.ensures.refused)

pub returns-clause-changes : goal.returns-clause-changes
returns-clause-changes c = all_read c.args.form c.args.first.sum c.args.first.times (whole_lines c.args.octets.now) (whole_lines c.lines.rest.now) (members_of c.lines.members.entries) c.lines.now c.lines.invariant.so_far (search rules)
