use Rattle.std.specs.String.{string_bytes}
use Rattle.nbt_store.specs.declared.change.Change.TheVariants.{Began}
use Rattle.nbt_store.proofs.Written.{record_put}
use Rattle.nbt_store.proofs.writing.write_row.Goals as goal

pub returns : goal.returns
returns c = record_put c.args.sum (string_bytes c.write_began.new.out) (string_bytes c.args.out.now) (string_bytes c.write_sealed.new.out) (Began c.args.row.now.0 c.args.row.now.1 c.args.at) c.write_sealed.result c.in_ok-write_began.ensures.says c.in_ok-write_began.ensures.line
    c.write_sealed.ensures.line c.write_sealed.ensures.sum
