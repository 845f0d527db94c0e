use Rattle.std.proofs.Common.{Some, None, refl}
use Rattle.std.proofs.lemmas.Result.{on_ok_weaker}
use Rattle.nbt_scan.specs.Inner.Steps.{reply_of}
use Rattle.nbt_scan.specs.Sheets.{Sheet}
use Rattle.nbt_scan.proofs.Hearings.{was_heard}
use Rattle.nbt_scan.proofs.scanning.hear.Goals as goal

pub returns-in-None-clause-ok : goal.returns-in-None-clause-ok
returns-in-None-clause-ok g c =
    let sheet : Sheet = record { kept = c.args.kept.now.items; text = g.W.Write.contents c.args.writer.now } in
    was_heard g.P.Port.does c.args.plan.now c.args.ids.now c.args.layout c.args.port.now c.receive.new.port c.args.scan.now c.take_from.new.replied sheet sheet c.in_ok-from.from c.receive.new.octets.items c.as_slice.result.now None
    c.as_slice.ensures.value c.in_ok-from.ensures.does c.in-None.ensures.hears refl

pub returns-in-Some-clause-ok : goal.returns-in-Some-clause-ok
returns-in-Some-clause-ok g c =
    let old : Sheet = record { kept = c.args.kept.now.items; text = g.W.Write.contents c.args.writer.now } in
    let new : Sheet = record { kept = c.tell.new.kept.items; text = g.W.Write.contents c.tell.new.writer } in
    on_ok_weaker c.tell.result (was_heard g.P.Port.does c.args.plan.now c.args.ids.now c.args.layout c.args.port.now c.receive.new.port c.args.scan.now c.take_from.new.replied old new c.in_ok-from.from c.receive.new.octets.items c.as_slice.result.now (Some (reply_of c.in-Some.heard))
    c.as_slice.ensures.value c.in_ok-from.ensures.does c.in-Some.ensures.hears) c.tell.ensures.ok
