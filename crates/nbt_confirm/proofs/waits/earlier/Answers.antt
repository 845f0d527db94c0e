use Rattle.std.proofs.Common.{◌≡◌}
use Rattle.std.specs.Prelude.{min, unwrap_or}
use Rattle.nbt_confirm.proofs.Times.{one_more}
use Rattle.nbt_confirm.proofs.waits.earlier.Goals as goal

pub returns : goal.returns
returns c times first =
    let is : c.min.result ≡ min (unwrap_or c.args.first c.args.other) c.args.other = cc in
    one_more times c.args.first c.args.other c.min.result is first
