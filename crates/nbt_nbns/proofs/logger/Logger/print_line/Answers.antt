use Rattle.std.proofs.Common.{◌≡◌, ◌++◌, ℕ, List, Option, refl, sym, ap, subst, ◌∙◌}
use Rattle.nbt_log.specs.Limiting.{LimitersValue}
use Rattle.nbt_log.specs.declared.dates.Dates.{Dates}
use Rattle.nbt_log.specs.declared.entry.Entry.{Entry}
use Rattle.nbt_nbns.specs.Logging.{LoggerValue, Logs, IsUnmade, PrintsOrDrops, is_made, is_unmade}
use Rattle.nbt_nbns.specs.Outboxes.{OutboxValue, one_dropped, SendsOrDrops}
use Rattle.nbt_nbns.proofs.Outgoing.{on_err_so}
use Rattle.nbt_nbns.proofs.logger.Logger.print_line.Goals as goal

abbrev with : LoggerValue → LimitersValue → OutboxValue → LoggerValue
with old limiters outbox = record { broadcasts = old.broadcasts; limiters = limiters; outbox = outbox }

unmade : (old : LoggerValue) (dates : Dates) (now : ℕ) (entry : Option Entry) (text : Option (List ℕ)) (limiters : LimitersValue) (outbox : OutboxValue) → outbox ≡ record old.outbox { dropped = one_dropped old.outbox.dropped }
    → IsUnmade old.broadcasts old.limiters now entry limiters → PrintsOrDrops old dates now entry text (with old limiters outbox) text
unmade old dates now entry text limiters outbox counted is = subst (λ (o : OutboxValue). PrintsOrDrops old dates now entry text (with old limiters o) text) (sym counted) (is_unmade limiters is)

made : (old : LoggerValue) (dates : Dates) (now : ℕ) (entry : Option Entry) (old_text text : Option (List ℕ)) (line sent : List ℕ) (limiters : LimitersValue) (outbox : OutboxValue) → sent ≡ line → Logs old.broadcasts old.limiters dates now entry line limiters
    → SendsOrDrops old.outbox sent old_text outbox text → PrintsOrDrops old dates now entry old_text (with old limiters outbox) text
made old dates now entry old_text text line sent limiters outbox same logs sends = is_made line (with old limiters outbox) text logs (subst (λ (l : List ℕ). SendsOrDrops old.outbox l old_text outbox text) same sends) refl

pub returns-in-Err-clause-refused : goal.returns-in-Err-clause-refused
returns-in-Err-clause-refused g c =
    let here : LoggerValue = record { broadcasts = c.self.inside.broadcasts; limiters = c.self.inside.limiters; outbox = c.self.inside.outbox } in
    let text = g.W.Write.contents c.args.writer.now in
    let limiters = c.write_limited-made.new.limiters in
    let outbox = c.drop_line.new.self in
    let dates = c.args.dates.now in
    let now = c.args.shown.now.at in
    let entry = c.args.shown.now.entry in
    subst (λ (l : LoggerValue). PrintsOrDrops l dates now entry text (with here limiters outbox) text) c.self.view_is (unmade here dates now entry text limiters outbox c.drop_line.ensures c.in-Err.ensures.unmade)

pub returns-clause-refused : goal.returns-clause-refused
returns-clause-refused g c =
    let here : LoggerValue = record { broadcasts = c.self.inside.broadcasts; limiters = c.self.inside.limiters; outbox = c.self.inside.outbox } in
    let before = g.W.Write.contents c.args.writer.now in
    let after = g.W.Write.contents c.send.new.writer in
    let limiters = c.write_limited-made.new.limiters in
    let outbox = c.send.new.self in
    let dates = c.args.dates.now in
    let now = c.args.shown.now.at in
    let entry = c.args.shown.now.entry in
    let line = c.in_default.ensures.made in
    let same = c.as_str.ensures.value ∙ line.2 ∙ ap (λ (l : List ℕ). l ++ line.0) c.clear.ensures.bytes in
    on_err_so c.send.result c.send.ensures.refused
    (λ sends. subst (λ (l : LoggerValue). PrintsOrDrops l dates now entry before (with here limiters outbox) after) c.self.view_is (made here dates now entry before after line.0 c.as_str.result.now limiters outbox same line.1 sends))
