use Rattle.std.proofs.Common.{◌≡◌, length, rules}
use Rattle.nbt_serve.specs.Runs.{live_rows}
use Rattle.nbt_nbns.proofs.checking.manner_kept.Goals as goal

pub returns-clause-ok : goal.returns-clause-ok
returns-clause-ok g c =
    let counted : c.len-count.result ≡ length (live_rows c.args.begun.now.server) = rw (← c.in_ok-list_live.ensures) (search rules) in
    rw (← counted, ← c.longest-longest.ensures.value, ← c.last-speaks.ensures.last) c.manner_of.ensures
