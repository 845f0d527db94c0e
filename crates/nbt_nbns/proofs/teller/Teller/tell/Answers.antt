use Rattle.std.proofs.Common.{List, map, refl, sym, ap, subst, ◌∙◌, Some}
use Rattle.std.proofs.lemmas.Bool.{false≢true}
use Rattle.nbt_port.specs.PortCalls.{Chain}
use Rattle.nbt_nbns.specs.Teller.{Seeing, SeesOne}
use Rattle.nbt_nbns.specs.declared.teller.Untold.{Untold}
use Rattle.nbt_nbns.proofs.Telling.{queued_then, nothing_is_shown, each_is_shown}
use Rattle.nbt_nbns.proofs.teller.Teller.tell.Goals as goal

pub returns-then-has_none : goal.returns-then-has_none
returns-then-has_none g c =
    let sees = g.V.Watcher.sees in
    let server = c.args.server.now in
    let shown = c.args.shown.now in
    let before : Seeing _ = record { watcher = c.args.watcher.now; text = g.W.Write.contents c.args.writer.now } in
    let after : Seeing _ = record { watcher = c.see.new.self; text = g.W.Write.contents c.see.new.writer } in
    let life = ap (λ n. n.life) (c.config.ensures ∙ ap (λ t. t.config) c.table.ensures.table) in
    let late = queued_then server c.args.sent shown c.args.self.now c.queue.new.self c.drop_late.new.self c.config.result.life c.last.result c.take.result life c.last.ensures.last c.take.ensures.value c.queue.ensures c.drop_late.ensures in
    let nothing = c.has_none.ensures.0 c.if-has_none.true in
    nothing_is_shown sees server c.args.waiting.now c.args.sent shown c.args.self.now before after (c.if-not-is_empty.ensures.0 refl) c.drop_late.new.self (sym late ∙ nothing) nothing
    (subst (λ e. SeesOne sees server before (record shown { entry = e }) after) c.take.ensures.after c.see.ensures)

pub returns : goal.returns
returns g c =
    let sees = g.V.Watcher.sees in
    let server = c.args.server.now in
    let shown = c.args.shown.now in
    let before : Seeing _ = record { watcher = c.args.watcher.now; text = g.W.Write.contents c.args.writer.now } in
    let after : Seeing _ = record { watcher = c.show_each.new.watcher; text = g.W.Write.contents c.show_each.new.writer } in
    let inside = c.self.inside in
    let life = ap (λ n. n.life) (c.config.ensures ∙ ap (λ t. t.config) c.table.ensures.table) in
    let late = queued_then server c.args.sent shown c.args.self.now c.queue.new.self c.drop_late.new.self c.config.result.life c.last.result c.take.result life c.last.ensures.last c.take.ensures.value c.queue.ensures c.drop_late.ensures in
    each_is_shown sees server c.args.waiting.now c.args.sent shown c.args.self.now before after (c.if-not-is_empty.ensures.0 refl) c.show_each.new.untold.items (λ nothing. false≢true (sym c.if-has_none.false ∙ c.has_none.ensures.1 (late ∙ nothing)))
    c.show_each.ensures.none
    (subst (λ (us : List Untold). Chain (SeesOne sees server) before (map (λ (u : Untold). record shown { entry = Some u.entry }) us) after) (c.self.view_is ∙ late) c.show_each.ensures.seen)
