use Rattle.std.proofs.Common.{◌≤◌, length, rules}
use Rattle.nbt_prog.proofs.Whole.{whole}
use Rattle.nbt_prog.proofs.offline.input.read_whole.Goals as goal

pub returns-clause-input : goal.returns-clause-input
returns-clause-input g c = let short : length c.read_to_end.new.buf.items ≤ 1048576 = search rules in
    whole c.take.result (λ r. g.R.Read.remaining r.now) _ c.new-octets.result.items c.read_to_end.new.buf.items c.take.ensures.limit c.take.ensures.inner c.new-octets.ensures.items
    c.in_ok-read_to_end.ensures.bytes short
