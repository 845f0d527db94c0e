use Rattle.std.specs.String.{string_bytes}
use Rattle.nbt_store.proofs.Written.{head_put}
use Rattle.nbt_store.proofs.writing.write_head.Goals as goal

pub returns : goal.returns
returns c = head_put (string_bytes c.write_header.new.out) (string_bytes c.args.out.now) (string_bytes c.write_sealed.new.out) (record { header = c.args.header.now; leases = c.args.leases }) c.write_sealed.result c.in_ok-write_header.ensures.says c.in_ok-write_header.ensures.line
    c.write_sealed.ensures.line c.write_sealed.ensures.sum
