use Rattle.std.specs.String.{string_bytes}
use Rattle.nbt_store.proofs.Written.{record_put}
use Rattle.nbt_store.proofs.writing.write_change.Goals as goal

pub returns : goal.returns
returns c = record_put c.args.sum (string_bytes c.write_words.new.out) (string_bytes c.args.out.now) (string_bytes c.write_sealed.new.out) c.args.change.now c.write_sealed.result c.in_ok-write_words.ensures.says c.in_ok-write_words.ensures.line c.write_sealed.ensures.line c.write_sealed.ensures.sum
