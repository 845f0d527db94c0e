use Rattle.std.proofs.Common.{codes}
use Rattle.std.specs.String.{string_bytes}
use Rattle.nbt_text.proofs.Joining.{OnOk-map, five_parts}
use Rattle.nbt_text.specs.Address.{address_text}
use Rattle.nbt_host.specs.Begin.{count_text}
use Rattle.nbt_host.proofs.begin.write_begin.Goals as goal

pub returns : goal.returns
returns c =
    let a = c.args in
    OnOk-map c.write_count.result c.write_count.ensures (λ e.
    five_parts (string_bytes a.out.now) (codes "host ") (address_text a.at) (codes " asks ") (address_text a.server) (count_text a.count) _ _ _ _ _
    c.in_ok-push_str.ensures.bytes c.in_ok-write_address.ensures c.in_ok-push_str-2.ensures.bytes c.in_ok-write_address-2.ensures e)
