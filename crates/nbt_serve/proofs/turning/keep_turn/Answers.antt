use Rattle.std.proofs.Common.{ℕ, ◌<◌, not, List, [], ◌∷◌, ◌++◌, length, refl, sym, ap, subst, ◌∙◌, Option, None, Some, Ok}
use Rattle.std.specs.Prelude.{is_some}
use Rattle.std.proofs.lemmas.Result.{err_from_is_err_and}
use Rattle.nbt_port.specs.declared.port.Route.{Route}
use Rattle.nbt_port.specs.PortCalls.{receive_failed, receiving}
use Rattle.nbt_port.proofs.Chains.{chain-append}
use Rattle.nbt_store.specs.declared.room.Room.TheVariants as there_is
use Rattle.nbt_serve.specs.Devices.{on_port, DeviceDoes}
use Rattle.nbt_serve.specs.Turning.{taking, stores, receive_in, told_in, receive_fails}
use Rattle.nbt_serve.specs.Waiting.{ReplyValue, WaitingValue, batch}
use Rattle.nbt_serve.specs.Inner.Passing.{goes_to, name_in_any, query_in, reply_to}
use Rattle.nbt_serve.proofs.Never.{replies_stay}
use Rattle.nbt_serve.proofs.Named.{quiet_query}
use Rattle.nbt_serve.proofs.Passed.{taken, not_received, passed_so, failed_so, broke, room_left, room_failed}
use Rattle.nbt_serve.proofs.turning.keep_turn.Goals as goal

pub returns-in_err-came-clause-err : goal.returns-in_err-came-clause-err
returns-in_err-came-clause-err g c =
    let p = err_from_is_err_and c.from_residual.result c.from_residual.ensures.1 in
    rw (p.1, p.2) (record {
      took = None;
      calls = on_port receive_failed ∷ [];
      readings = [];
      takes = refl;
      fails = receive_fails;
      devices_did = not_received g.P.Port.does g.S.Store.does c.args.port.now c.receive.new.port c.args.store.now c.in_err-came.ensures.does;
      clock_told = refl;
      room = there_is.Ample;
      shared = λ port. refl;
    })

pub returns-in_err-synced-clause-err : goal.returns-in_err-synced-clause-err
returns-in_err-synced-clause-err g c =
    let p = err_from_is_err_and c.from_residual-in_err-synced.result c.from_residual-in_err-synced.ensures.1 in
    let t = c.in_err-synced.ensures.err in
    let q = c.receive.new.port in
    rw (p.1, p.2)
    (broke g.P.Port.does g.S.Store.does g.C.Clock.tells c.args.port.now q c.args.store.now c.take_any.new.store c.args.clock.now c.take_any.new.clock c.args.server.now c.take_any.new.server c.args.share.now c.take_any.new.share c.args.waiting.now
    c.take_any.new.waiting t.0 c.as_slice.result.now
    (subst (λ (o : Option Route). g.P.Port.does c.args.port.now (receiving (Ok o) c.as_slice.result.now) q) t.1
    (subst (λ (xs : List ℕ). g.P.Port.does c.args.port.now (receiving (Ok c.in_ok-came.came) xs) q) (sym c.as_slice.ensures.value) c.in_ok-came.ensures.does)) t.2)

pub returns-in-Ok-clause-ok : goal.returns-in-Ok-clause-ok
returns-in-Ok-clause-ok g c =
    let t = c.in_ok-synced.ensures.ok in
    let a = c.take_any.new in
    let server = a.server in
    let old = c.args.waiting.now in
    let q = c.receive.new.port in
    let l = c.in-Ok.ensures.ok in
    record {
      took = t.took;
      calls = taking t.took old ++ l.0;
      readings = l.1;
      takes = t.takes;
      logged = t.logged;
      changed = t.changed;
      room = t.room;
      shared = t.shared;
      passes = passed_so server.table.config.life t.took old a.waiting (not (is_some c.in_ok-came.came)) c.in_ok-synced.synced (query_in a.entry) (reply_to server.last (name_in_any a.entry) (goes_to c.in_ok-came.came a.entry) a.reply.items) t.synced_is t.waiting_is t.idle t.asked t.reply
          (quiet_query a.entry t.took.change t.changed) c.in-Ok.sent.ahead l.0 l.1 c.pass.new.self l.2;
      devices_did = chain-append (DeviceDoes g.P.Port.does g.S.Store.does) (record { port = c.args.port.now; store = c.args.store.now }) (record { port = q; store = a.store }) (record { port = c.pass.new.port; store = c.pass.new.store }) (taking t.took old) l.0
          (taken g.P.Port.does g.S.Store.does c.args.port.now q c.args.store.now a.store (receive_in t.took.barred t.took.turn) (receiving (Ok c.in_ok-came.came) c.as_slice.result.now) (stores t.took old) t.received
          (subst (λ (xs : List ℕ). g.P.Port.does c.args.port.now (receiving (Ok c.in_ok-came.came) xs) q) (sym c.as_slice.ensures.value) c.in_ok-came.ensures.does) t.stored)
          l.3;
      clock_told = chain-append g.C.Clock.tells c.args.clock.now a.clock c.pass.new.clock (told_in t.took.barred t.took.turn) l.1 t.clock_told l.4;
      left_is = l.5;
    }

pub returns-in-Err-clause-err : goal.returns-in-Err-clause-err
returns-in-Err-clause-err g c =
    let t = c.in_ok-synced.ensures.ok in
    let a = c.take_any.new in
    let server = a.server in
    let old = c.args.waiting.now in
    let q = c.receive.new.port in
    let l = c.in-Err.ensures.err in
    record {
      took = Some t.took;
      calls = taking t.took old ++ l.0;
      readings = told_in t.took.barred t.took.turn ++ l.1;
      takes = t.takes;
      fails = failed_so server.table.config.life t.took old a.waiting (not (is_some c.in_ok-came.came)) c.in_ok-synced.synced (query_in a.entry) (reply_to server.last (name_in_any a.entry) (goes_to c.in_ok-came.came a.entry) a.reply.items) t.synced_is t.waiting_is t.idle t.asked t.reply
          (quiet_query a.entry t.took.change t.changed) c.in-Err.why l.0 l.1 c.pass.new.self l.2;
      devices_did = chain-append (DeviceDoes g.P.Port.does g.S.Store.does) (record { port = c.args.port.now; store = c.args.store.now }) (record { port = q; store = a.store }) (record { port = c.pass.new.port; store = c.pass.new.store }) (taking t.took old) l.0
          (taken g.P.Port.does g.S.Store.does c.args.port.now q c.args.store.now a.store (receive_in t.took.barred t.took.turn) (receiving (Ok c.in_ok-came.came) c.as_slice.result.now) (stores t.took old) t.received
          (subst (λ (xs : List ℕ). g.P.Port.does c.args.port.now (receiving (Ok c.in_ok-came.came) xs) q) (sym c.as_slice.ensures.value) c.in_ok-came.ensures.does) t.stored)
          l.3;
      clock_told = chain-append g.C.Clock.tells c.args.clock.now a.clock c.pass.new.clock (told_in t.took.barred t.took.turn) l.1 t.clock_told l.4;
      room = t.room;
      shared = λ port. t.shared;
    }

pub pass-requires : goal.pass-requires
pass-requires g c =
    let t = c.in_ok-synced.ensures.ok in
    let same = ap (λ (w : WaitingValue). w.replies) t.waiting_is ∙ replies_stay t.took c.args.waiting.now in
    record { room = subst (λ (rs : List ReplyValue). length rs < batch) (sym same) c.requires.room }

pub returns-in-Ok-clause-room : goal.returns-in-Ok-clause-room
returns-in-Ok-clause-room g c =
    let a = c.take_any.new in
    let l = c.in-Ok.ensures.ok in
    room_left a.server.table.config.life (not (is_some c.in_ok-came.came)) c.in_ok-synced.synced (query_in a.entry) (reply_to a.server.last (name_in_any a.entry) (goes_to c.in_ok-came.came a.entry) a.reply.items) a.waiting c.in-Ok.sent.ahead c.pass.new.self l.0 l.1 l.2

pub returns-in-Err-clause-room : goal.returns-in-Err-clause-room
returns-in-Err-clause-room g c =
    let t = c.in_ok-synced.ensures.ok in
    let a = c.take_any.new in
    let same = ap (λ (w : WaitingValue). w.replies) t.waiting_is ∙ replies_stay t.took c.args.waiting.now in
    let l = c.in-Err.ensures.err in
    room_failed a.server.table.config.life (not (is_some c.in_ok-came.came)) c.in_ok-synced.synced (query_in a.entry) a.server.last (name_in_any a.entry) (goes_to c.in_ok-came.came a.entry) a.reply.items a.waiting c.pass.new.self c.in-Err.why l.0 l.1
    (subst (λ (rs : List ReplyValue). length rs < batch) (sym same) c.requires.room) l.2
