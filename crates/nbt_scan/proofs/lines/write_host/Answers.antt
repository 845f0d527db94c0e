use Rattle.std.proofs.Common.{◌++◌, refl}
use Rattle.nbt_text.proofs.Joining.{OnOk-map}
use Rattle.nbt_scan.proofs.lines.write_host.Goals as goal

pub returns-in-Plain : goal.returns-in-Plain
returns-in-Plain c = OnOk-map c.write_columns.result c.write_columns.ensures (λ x. (x.0, rw c.in-Plain.is (c.of-host.result, c.of-host.ensures, x.1), x.2))

pub returns-in-Long : goal.returns-in-Long
returns-in-Long c = OnOk-map c.write_long.result c.write_long.ensures (λ x. (x.0 ++ x.2, rw c.in-Long.is (c.of-host.result, c.of-host.ensures, x.0, x.1, x.2, x.3, refl), x.4))

pub returns-in-Hosts : goal.returns-in-Hosts
returns-in-Hosts c = OnOk-map c.write_hosts_line.result c.write_hosts_line.ensures (λ x. (x.0, rw c.in-Hosts.is (c.of-host.result, c.of-host.ensures, x.1), x.2))
