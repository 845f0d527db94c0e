use Rattle.std.proofs.Common.{inr}
use Rattle.nbt_admin.proofs.Fixed.{networks_fail}
use Rattle.nbt_admin.proofs.fronting.networks_of.Goals as goal

pub returns : goal.returns
returns g c = record {
  given = tt;
  failure = inr (networks_fail c.args.path c.in-Some.path (record { path = c.in_ok-path-in-Err-read_networks.path; fault = c.in-Err-read_networks.fault }) c.as_slice.result.now c.in-Some.is c.in-Err-read_networks.ensures.fault);
}
