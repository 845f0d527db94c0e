use Rattle.std.proofs.Common.{◌≡◌, false, take}
use Rattle.std.specs.List.{list_any}
use Rattle.nbt_host.specs.Releases.{is_due}
use Rattle.nbt_host.specs.Inner.ReleaseSteps.{Reached}
use Rattle.nbt_host.proofs.release_sending.send_due.Given as goal

abbrev pub invariant-loop-release : goal.invariant-loop-release
invariant-loop-release g l = record {
  reached : Reached g.P.Port.does l.server l.own l.now (record { port = l.fn.port; releases = l.fn.releases }) (record { port = l.port; releases = l.releases });
  none_due : list_any (is_due l.now) (take l.release-index l.releases) ≡ false;
  count : g.P.Port.failures l.port ≡ g.P.Port.failures l.fn.port;
}
