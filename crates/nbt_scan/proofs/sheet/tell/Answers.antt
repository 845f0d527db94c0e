use Rattle.std.proofs.Common.{◌∙◌, refl}
use Rattle.std.specs.String.{string_bytes}
use Rattle.nbt_scan.specs.Inner.Steps.{reply_of}
use Rattle.nbt_scan.specs.Sheets.{Sheet}
use Rattle.nbt_scan.proofs.Hearings.{was_kept, was_printed}
use Rattle.nbt_scan.proofs.sheet.tell.Goals as goal

pub returns-then-layout-clause-ok : goal.returns-then-layout-clause-ok
returns-then-layout-clause-ok g c =
    let x = c.in_ok-write_host.ensures in
    let old : Sheet = record { kept = c.args.kept.now.items; text = g.W.Write.contents c.args.writer.now } in
    was_kept c.args.layout (reply_of c.args.heard.now) old (record { ip = c.args.heard.now.ip; text = c.write_host.new.out }) c.push.new.self.items (string_bytes c.new-text.result) x.0 c.if-layout.true refl c.new-text.ensures.bytes x.2 x.1 c.in_ok-push.ensures.items

pub returns-in-Ok-clause-ok : goal.returns-in-Ok-clause-ok
returns-in-Ok-clause-ok g c =
    let x = c.in_ok-write_host.ensures in
    let old : Sheet = record { kept = c.args.kept.now.items; text = g.W.Write.contents c.args.writer.now } in
    was_printed c.args.layout (reply_of c.args.heard.now) old (g.W.Write.contents c.print.new.writer) (string_bytes c.new-text.result) x.0 c.as_str.result.now c.if-layout.false c.new-text.ensures.bytes (c.as_str.ensures.value ∙ x.2) x.1 c.in-Ok.ensures
