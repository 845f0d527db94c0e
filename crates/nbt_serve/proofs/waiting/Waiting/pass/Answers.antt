use Rattle.std.proofs.Common.{◌≡◌, ℕ, Bool, true, false, not, Option, sym, ap, ◌∙◌}
use Rattle.std.specs.Prelude.{is_some}
use Rattle.std.proofs.lemmas.Result.{err_from_is_err_and}
use Rattle.nbt_port.specs.declared.port.Route.{Route}
use Rattle.nbt_serve.specs.Inner.Passing.{goes_to, name_in_any, query_in, reply_to}
use Rattle.nbt_serve.proofs.Never.{first_by}
use Rattle.nbt_serve.proofs.Passed.{passed_on, left_not, ahead_not_sent}
use Rattle.nbt_serve.proofs.waiting.Waiting.pass.Goals as goal

not_not : (a b : Bool) → a ≡ not b → b ≡ not a
not_not a true is = ap not (sym is)
not_not a false is = ap not (sym is)

pub returns-in_err-send_or_hold-clause-err : goal.returns-in_err-send_or_hold-clause-err
returns-in_err-send_or_hold-clause-err g c =
    let p = err_from_is_err_and c.from_residual.result c.from_residual.ensures.1 in
    let server = c.args.server.now in
    let entry = c.args.entry.now in
    let l = c.in_err-send_or_hold.ensures.err in
    rw (p.1, p.2)
    (ahead_not_sent g.P.Port.does g.S.Store.does g.C.Clock.tells c.args.port.now c.send_or_hold.new.port c.args.store.now c.args.clock.now server.table.config.life server.last (not (is_some c.args.came)) c.args.synced (query_in entry) (name_in_any entry) (goes_to c.args.came entry) c.args.octets.now.items
    c.args.self.now c.send_or_hold.new.self c.goes_first-ahead.result _ (first_by c.args.synced c.goes_first-ahead.result (query_in entry) c.args.self.now c.goes_first-ahead.ensures) (l.0, l.1, sym c.goes_to-to.ensures ∙ l.2, l.3, l.4, l.5))

pub returns-in-Ok-clause-ok : goal.returns-in-Ok-clause-ok
returns-in-Ok-clause-ok g c =
    let server = c.args.server.now in
    let entry = c.args.entry.now in
    let octets = c.args.octets.now.items in
    let replies = reply_to server.last (name_in_any entry) (goes_to c.args.came entry) octets in
    let h = c.in_ok-send_or_hold.ensures.ok in
    passed_on g.P.Port.does g.S.Store.does g.C.Clock.tells c.args.port.now c.send_or_hold.new.port c.leave_where_due.new.port c.args.store.now c.leave_where_due.new.store c.args.clock.now c.leave_where_due.new.clock server.table.config.life (not (is_some c.args.came)) c.args.synced (query_in entry) replies
    c.args.self.now c.leave_where_due.new.self c.goes_first-ahead.result (first_by c.args.synced c.goes_first-ahead.result (query_in entry) c.args.self.now c.goes_first-ahead.ensures) c.send_or_hold.new.self (reply_to c.last.result (name_in_any entry) c.goes_to-to.result octets)
    (ap (λ (n : ℕ). reply_to n (name_in_any entry) c.goes_to-to.result octets) c.last.ensures.last ∙ ap (λ (to : Option Route). reply_to server.last (name_in_any entry) to octets) c.goes_to-to.ensures) h.0 h.1
    c.config-limits.result.life c.is_none.result (not_not (is_some c.args.came) c.is_none.result c.is_none.ensures) (ap (λ n. n.life) (c.config-limits.ensures ∙ ap (λ t. t.config) c.table.ensures.table)) c.in-Ok.left c.in-Ok.ensures.ok

pub returns-in-Err-clause-err : goal.returns-in-Err-clause-err
returns-in-Err-clause-err g c =
    let server = c.args.server.now in
    let entry = c.args.entry.now in
    let octets = c.args.octets.now.items in
    let replies = reply_to server.last (name_in_any entry) (goes_to c.args.came entry) octets in
    let h = c.in_ok-send_or_hold.ensures.ok in
    left_not g.P.Port.does g.S.Store.does g.C.Clock.tells c.args.port.now c.send_or_hold.new.port c.leave_where_due.new.port c.args.store.now c.leave_where_due.new.store c.args.clock.now c.leave_where_due.new.clock server.table.config.life (not (is_some c.args.came)) c.args.synced (query_in entry) replies
    c.args.self.now c.leave_where_due.new.self c.goes_first-ahead.result (first_by c.args.synced c.goes_first-ahead.result (query_in entry) c.args.self.now c.goes_first-ahead.ensures) c.send_or_hold.new.self (reply_to c.last.result (name_in_any entry) c.goes_to-to.result octets)
    (ap (λ (n : ℕ). reply_to n (name_in_any entry) c.goes_to-to.result octets) c.last.ensures.last ∙ ap (λ (to : Option Route). reply_to server.last (name_in_any entry) to octets) c.goes_to-to.ensures) h.0 h.1
    c.config-limits.result.life c.is_none.result (not_not (is_some c.args.came) c.is_none.result c.is_none.ensures) (ap (λ n. n.life) (c.config-limits.ensures ∙ ap (λ t. t.config) c.table.ensures.table)) c.in-Err.why c.in-Err.ensures.err
