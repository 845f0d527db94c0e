use Rattle.std.proofs.lemmas.Result.{err_from_is_err_and}
use Rattle.nbt_store.proofs.WholeLines.{bad_rest_refused, file_loaded}
use Rattle.nbt_store.proofs.reading.load.Goals as goal

pub returns-in_err-times-clause-refused : goal.returns-in_err-times-clause-refused
returns-in_err-times-clause-refused c =
    let p = err_from_is_err_and c.from_residual-in_err-times.result c.from_residual-in_err-times.ensures.1 in
    let f = c.in_ok-front.front in
    rw (p.1, p.2) (bad_rest_refused c.args.octets.now f.rest.now f.form f.head f.sum c.in_err-times.field-0.0 c.in_ok-front.ensures.front c.in_err-times.ensures.refused)

pub returns-clause-loaded : goal.returns-clause-loaded
returns-clause-loaded c =
    let read = c.in_ok-times.ensures.changes in
    let f = c.in_ok-front.front in
    file_loaded c.args.octets.now f.rest.now f.form f.head read.0 f.sum read.1 c.read_rest.new.members.entries c.in_ok-times.times c.in_ok-rows.rows.items c.in_ok-front.ensures.front read.2 read.3 read.4 read.5 c.in_ok-times.ensures.names c.in_ok-rows.ensures
