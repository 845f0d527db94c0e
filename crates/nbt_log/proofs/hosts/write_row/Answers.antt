use Rattle.std.proofs.Common.{[], refl, sym, append-nil}
use Rattle.std.specs.String.{string_bytes}
use Rattle.nbt_text.proofs.Joining.{OnOk-map}
use Rattle.nbt_text.specs.HostNames.{host_line}
use Rattle.nbt_log.specs.Hosts.{left_out, listed}
use Rattle.nbt_log.proofs.hosts.write_row.Goals as goal

pub returns-in-Some : goal.returns-in-Some
returns-in-Some c =
    let host = c.in-Some.host.now in
    OnOk-map c.write_host.result c.write_host.ensures (λ e. (host_line c.args.row.now.1.addr host, listed host c.in-Some.ensures.host, e))

pub returns-in-None : goal.returns-in-None
returns-in-None c = ([], left_out (c.in-None.ensures.none refl), sym (append-nil (string_bytes c.args.out.now)))
