use Rattle.std.proofs.Common.{Bool, false, refl, ap, subst, Some}
use Rattle.std.proofs.lemmas.Result.{err_from_is_err_and}
use Rattle.nbt_log.specs.declared.entry.Entry.{Entry}
use Rattle.nbt_serve.specs.Sharing.{SharesBy}
use Rattle.nbt_serve.specs.Inner.Taking.{in_reaching}
use Rattle.nbt_serve.proofs.Taking.{taken_so, not_kept, lost_one, barred_one, barred_so, handled_so}
use Rattle.nbt_serve.proofs.turning.take.Goals as goal

pub returns-then-is_barred-clause-ok : goal.returns-then-is_barred-clause-ok
returns-then-is_barred-clause-ok g c =
    barred_one c.room_for-room.result g.S.Store.does g.C.Clock.tells c.args.store.now c.args.clock.now c.now-now.new.self c.args.server.now c.args.share.now c.admit_by-admission.new.self c.args.waiting.now c.now-now.result c.args.from c.args.octets.now c.args.reply.now.items
    c.now-now.ensures (barred_so c.room_for-room.result c.now-now.result c.args.from.peer.ip c.args.octets.now c.args.share.now c.admit_by-admission.new.self c.admit_by-admission.result (c.if-is_barred.ensures.0 refl) c.admit_by-admission.ensures)

pub returns-in_err-synced-clause-err : goal.returns-in_err-synced-clause-err
returns-in_err-synced-clause-err g c =
    let p = err_from_is_err_and c.from_residual.result c.from_residual.ensures.1 in
    let r = c.in_err-synced.ensures.err in
    rw p.1 (in_reaching c.now-now.result r.1 r.0 r.2 r.3 c.now-now.ensures refl r.4)

pub returns-in_ok-append_change-in-Ok-clause-ok : goal.returns-in_ok-append_change-in-Ok-clause-ok
returns-in_ok-append_change-in-Ok-clause-ok g c =
    let r = c.in_ok-synced.ensures.ok in
    let a = c.in_ok-append_change-in-Ok.ensures.ok in
    let now = c.now-now.result in
    let shared = c.settle.ensures c.room_for-room.result now c.args.octets.now c.args.share.now c.admit_by-admission.ensures (handled_so c.admit_by-admission.result (λ is. let e = c.if-is_barred.ensures.1 is in absurd cc)) in
    taken_so c.room_for-room.result g.S.Store.does g.C.Clock.tells c.args.store.now c.reach.new.store c.append_change.new.store c.args.clock.now c.now-now.new.self c.args.server.now c.handle.new.self c.args.share.now c.settle.new.self now c.args.from c.args.octets.now c.args.waiting.now
    c.reach.new.self c.in_ok-synced.synced c.now-now.ensures r.0 r.1 r.2 c.in-Ok.outcome a.0 c.handle.new.out.items c.append_change.new.waiting _ c.in-Ok.ensures.handled a.1 (ap (λ (entry : Entry). Some entry) c.of.ensures)
    (subst (λ (b : Bool). SharesBy c.room_for-room.result now c.args.from.peer.ip c.args.octets.now c.args.share.now false b c.settle.new.self) c.changes_leases.ensures shared) a.2 a.3

pub returns-in_err-append_change-in-Ok-clause-err : goal.returns-in_err-append_change-in-Ok-clause-err
returns-in_err-append_change-in-Ok-clause-err g c =
    let p = err_from_is_err_and c.from_residual-in_err-append_change-in-Ok.result c.from_residual-in_err-append_change-in-Ok.ensures.1 in
    let r = c.in_ok-synced.ensures.ok in
    let a = c.in_err-append_change-in-Ok.ensures.err in
    rw p.1
    (not_kept c.room_for-room.result g.S.Store.does g.C.Clock.tells c.args.store.now c.reach.new.store c.append_change.new.store c.args.clock.now c.now-now.new.self c.args.server.now c.handle.new.self c.args.share.now c.args.share.now c.now-now.result c.args.from c.args.octets.now c.args.waiting.now
    c.reach.new.self c.in_ok-synced.synced c.now-now.ensures r.0 r.1 r.2 c.in-Ok.outcome a.0 c.handle.new.out.items c.append_change.new.waiting c.in-Ok.ensures.handled a.1 a.2 a.3)

pub returns-in-Err-clause-ok : goal.returns-in-Err-clause-ok
returns-in-Err-clause-ok g c =
    let r = c.in_ok-synced.ensures.ok in
    let now = c.now-now.result in
    let shared = c.settle-in-Err.ensures c.room_for-room.result now c.args.octets.now c.args.share.now c.admit_by-admission.ensures (handled_so c.admit_by-admission.result (λ is. let e = c.if-is_barred.ensures.1 is in absurd cc)) in
    lost_one c.room_for-room.result g.S.Store.does g.C.Clock.tells c.args.store.now c.reach.new.store c.reach.new.store c.args.clock.now c.now-now.new.self c.args.server.now c.handle.new.self c.args.share.now c.settle-in-Err.new.self now c.args.from c.args.octets.now c.args.waiting.now
    c.reach.new.self c.in_ok-synced.synced c.now-now.ensures r.0 r.1 r.2 c.in-Err.field-0 c.handle.new.out.items c.in-Err.ensures.clock_back c.in-Err.ensures.unchanged c.in-Err.ensures.memory shared
