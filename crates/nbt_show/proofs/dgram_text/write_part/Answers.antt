use Rattle.std.proofs.Common.{[], ◌++◌, codes, sym}
use Rattle.std.proofs.lemmas.List.{append-nil}
use Rattle.std.specs.String.{string_bytes}
use Rattle.nbt_show.specs.DgramText.{with_names, name_line}
use Rattle.nbt_text.proofs.Joining.{OnOk-map, two_parts}
use Rattle.nbt_show.proofs.Datagrams.{no_names}
use Rattle.nbt_show.proofs.dgram_text.write_part.Goals as goal

pub returns-in_default : goal.returns-in_default
returns-in_default c = ([], sym (append-nil _), no_names _ _ _ c.args.part.now c.in_default.not-First)

pub returns : goal.returns
returns c =
    let source = c.in_ok-write_name_line.ensures in
    OnOk-map c.write_name_line-2.result c.write_name_line-2.ensures (λ destination. (
      name_line (codes "source ") source.0 ++ name_line (codes "destination ") destination.0,
      two_parts (string_bytes c.args.out.now) (string_bytes c.write_name_line.new.out) (string_bytes c.write_name_line-2.new.out) (name_line (codes "source ") source.0) (name_line (codes "destination ") destination.0) source.1 destination.1,
      rw c.in-First.is (with_names c.in-First.names source.0 destination.0 source.2 destination.2),
    ))
