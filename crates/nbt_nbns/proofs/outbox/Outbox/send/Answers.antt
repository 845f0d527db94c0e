use Rattle.std.proofs.Common.{◌≡◌, ◌≢◌, List, ℕ, [], length, refl, sym, ap, ◌∙◌}
use Rattle.std.proofs.lemmas.Bool.{eqb-true, eqb-false, false≢true}
use Rattle.std.proofs.lemmas.List.{nil_from_length}
use Rattle.nbt_nbns.specs.Outboxes.{one_dropped}
use Rattle.nbt_nbns.proofs.Outgoing.{on_ok, on_err, none_sent, no_empty_line, line_dropped, line_sent, sent_all_the_same, line_lost}
use Rattle.nbt_nbns.proofs.outbox.Outbox.send.Goals as goal

pub returns-then-is_empty : goal.returns-then-is_empty
returns-then-is_empty g c =
    let a = g.W.Write.contents c.args.writer.now in
    let b = g.W.Write.contents c.push_out.new.writer in
    let sent = none_sent c.args.self.now c.push_out.new.self c.args.line.now a b (nil_from_length c.args.line.now (eqb-true (length c.args.line.now) 0 (sym c.if-is_empty.ensures))) c.push_out.ensures.dropped c.push_out.ensures.text in
    record { sent = on_ok c.push_out.result sent; refused = on_err c.push_out.result (sent_all_the_same c.args.self.now c.push_out.new.self c.args.line.now a b sent) }

pub returns-then-not-is_empty : goal.returns-then-not-is_empty
returns-then-not-is_empty g c =
    let old = c.args.self.now in
    let here = c.push_out-pushed.new.self in
    let a = g.W.Write.contents c.args.writer.now in
    let b = g.W.Write.contents c.push_out-pushed.new.writer in
    let some = no_empty_line c.args.line.now (eqb-false (length c.args.line.now) 0 (sym c.if-is_empty.ensures)) in
    let waits : here.waiting ≢ [] = λ none. false≢true (c.if-not-is_empty.ensures.1 none) in
    let sent = line_dropped old here c.drop_line.new.self c.args.line.now a b some waits c.push_out-pushed.ensures.dropped c.drop_line.ensures c.push_out-pushed.ensures.text in
    record { sent = on_ok c.push_out-pushed.result sent; refused = on_err c.push_out-pushed.result (sent_all_the_same old c.drop_line.new.self c.args.line.now a b sent) }

pub returns-in-Err-clause-refused : goal.returns-in-Err-clause-refused
returns-in-Err-clause-refused g c =
    line_lost c.args.self.now c.push_out-pushed.new.self c.drop_line-in-Err.new.self c.args.line.now (g.W.Write.contents c.args.writer.now) (g.W.Write.contents c.push_out-pushed.new.writer)
    (no_empty_line c.args.line.now (eqb-false (length c.args.line.now) 0 (sym c.if-is_empty.ensures))) c.in-Err.ensures.dropped c.drop_line-in-Err.ensures c.in-Err.ensures.text

pub returns-in_err-fill-clause-refused : goal.returns-in_err-fill-clause-refused
returns-in_err-fill-clause-refused g c =
    let here = c.push_out-pushed.new.self in
    let none : here.waiting ≡ [] = c.if-not-is_empty.ensures.0 refl in
    let filled : c.fill.new.self ≡ record here { dropped = one_dropped here.dropped } = c.in_err-fill.ensures.refused ∙ ap (λ (w : List ℕ). record here { waiting = w; dropped = one_dropped here.dropped }) (sym none) in
    on_err c.from_residual.result
    (line_lost c.args.self.now here c.fill.new.self c.args.line.now (g.W.Write.contents c.args.writer.now) (g.W.Write.contents c.push_out-pushed.new.writer)
    (no_empty_line c.args.line.now (eqb-false (length c.args.line.now) 0 (sym c.if-is_empty.ensures))) c.in_default.ensures.dropped filled c.in_default.ensures.text)

pub returns : goal.returns
returns g c =
    let old = c.args.self.now in
    let here = c.push_out-pushed.new.self in
    let new = c.push_out-2.new.self in
    let a = g.W.Write.contents c.args.writer.now in
    let b = g.W.Write.contents c.push_out-pushed.new.writer in
    let end = g.W.Write.contents c.push_out-2.new.writer in
    let some = no_empty_line c.args.line.now (eqb-false (length c.args.line.now) 0 (sym c.if-is_empty.ensures)) in
    let sent =
    line_sent old here c.fill.new.self new c.args.line.now a b end some (c.if-not-is_empty.ensures.0 refl) c.in_default.ensures.dropped c.in_ok-fill.ensures.filled c.push_out-2.ensures.dropped c.in_default.ensures.text c.push_out-2.ensures.text in
    record { sent = on_ok c.push_out-2.result sent; refused = on_err c.push_out-2.result (sent_all_the_same old new c.args.line.now a end sent) }
