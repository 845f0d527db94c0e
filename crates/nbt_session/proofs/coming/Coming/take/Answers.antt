use Rattle.std.proofs.Common.{◌-◌, ◌<◌, List, ℕ, ◌++◌, length, drop, ap, ◌∙◌, arith}
use Rattle.std.proofs.lemmas.List.{length-append}
use Rattle.std.proofs.lemmas.Result.{err_from_is_err_and}
use Rattle.nbt_session.specs.Parts.{fault_is_seen}
use Rattle.nbt_session.proofs.Comings.{cut_by, body_cut, header_whole, packet_whole, request_fault, rest_is, fills_by, nothing_coming, nothing_after}
use Rattle.nbt_session.proofs.coming.Coming.take.Goals as goal

pub returns-in_err-frame-clause-takes : goal.returns-in_err-frame-clause-takes
returns-in_err-frame-clause-takes c =
    let p = err_from_is_err_and c.from_residual.result c.from_residual.ensures.1 in
    rw (p.1, p.2) (fault_is_seen _ _ c.in_err-frame.ensures.fault)

pub returns-in-Cut-clause-takes : goal.returns-in-Cut-clause-takes
returns-in-Cut-clause-takes c =
    let r = rw c.in-Cut.is at c.in_ok-frame.ensures.reaches in
    cut_by _ c.args.piece.now c.in-Cut.header.items c.args.self.now.body.items c.args.self.now.frame r.3 r.0 r.1 r.2

pub returns-in-Message-clause-takes : goal.returns-in-Message-clause-takes
returns-in-Message-clause-takes c =
    let r = rw c.in-Whole.is at c.in_ok-frame.ensures.reaches in
    header_whole _ c.args.piece.now c.args.self.now.body.items c.in-Whole.frame c.in-Whole.begin r c.in-Message.is

pub returns-then-rest-missing-clause-coming : goal.returns-then-rest-missing-clause-coming
returns-then-rest-missing-clause-coming c =
    let r = rw c.in-Whole.is at c.in_ok-frame.ensures.reaches in
    let rest = rest_is c.args.piece.now c.in-Whole.begin r.within in
    let joined = rw c.unwrap.ensures at c.try_extend_from_slice.ensures.ok in
    let after = joined ∙ ap (λ (xs : List ℕ). c.args.self.now.body.items ++ xs) rest in
    let short : length c.try_extend_from_slice.new.self.items < c.in-Whole.frame.count =
    omega (arith, ap length after, length-append c.args.self.now.body.items (drop c.in-Whole.begin c.args.piece.now), c.if-rest-missing.true, ap length rest, c.len.ensures.value) in
    (r.has, short, c.in_default.not-Message)

pub returns-then-rest-missing-clause-takes : goal.returns-then-rest-missing-clause-takes
returns-then-rest-missing-clause-takes c =
    let r = rw c.in-Whole.is at c.in_ok-frame.ensures.reaches in
    let rest = rest_is c.args.piece.now c.in-Whole.begin r.within in
    let joined = rw c.unwrap.ensures at c.try_extend_from_slice.ensures.ok in
    let after = joined ∙ ap (λ (xs : List ℕ). c.args.self.now.body.items ++ xs) rest in
    let short : length (c.args.self.now.body.items ++ drop c.in-Whole.begin c.args.piece.now) < c.in-Whole.frame.count =
    omega (arith, length-append c.args.self.now.body.items (drop c.in-Whole.begin c.args.piece.now), c.if-rest-missing.true, ap length rest, c.len.ensures.value) in
    body_cut _ c.args.piece.now c.args.self.now.body.items _ c.in-Whole.frame c.in-Whole.begin r c.in_default.not-Message short after

pub returns-in_err-packet-clause-coming : goal.returns-in_err-packet-clause-coming
returns-in_err-packet-clause-coming c = nothing_coming _ _ _ c.give_up-body.ensures.nothing.0 c.give_up-body.ensures.nothing.1 c.give_up-body.ensures.nothing.2

pub returns-in_err-packet-clause-takes : goal.returns-in_err-packet-clause-takes
returns-in_err-packet-clause-takes c =
    let p = err_from_is_err_and c.from_residual-in_err-packet.result c.from_residual-in_err-packet.ensures.1 in
    let r = rw c.in-Whole.is at c.in_ok-frame.ensures.reaches in
    let missing : ℕ = c.in-Whole.frame.count - c.len.result in
    let joined = rw c.unwrap-2.ensures at c.try_extend_from_slice-2.ensures.ok in
    let fills = fills_by c.args.self.now.body.items c.args.piece.now c.as_slice.result.now c.in-Whole.begin missing c.in-Whole.frame.count r.within (c.as_slice.ensures.value ∙ c.give_up-body.ensures.body ∙ joined) (omega (arith, c.len.ensures.value, r.room))
    (omega (arith, c.if-rest-missing.false)) in
    rw (p.1, p.2)
    (request_fault _ c.args.piece.now c.args.self.now.body.items c.as_slice.result.now c.in-Whole.frame c.in-Whole.begin missing c.in_err-packet.field-0.0 r fills c.in_err-packet.ensures.fault.0 c.in_err-packet.ensures.fault.1)

pub returns-clause-coming : goal.returns-clause-coming
returns-clause-coming c = nothing_coming _ _ _ c.give_up-body.ensures.nothing.0 c.give_up-body.ensures.nothing.1 c.give_up-body.ensures.nothing.2

pub returns-clause-takes : goal.returns-clause-takes
returns-clause-takes c =
    let r = rw c.in-Whole.is at c.in_ok-frame.ensures.reaches in
    let missing : ℕ = c.in-Whole.frame.count - c.len.result in
    let joined = rw c.unwrap-2.ensures at c.try_extend_from_slice-2.ensures.ok in
    let fills = fills_by c.args.self.now.body.items c.args.piece.now c.as_slice.result.now c.in-Whole.begin missing c.in-Whole.frame.count r.within (c.as_slice.ensures.value ∙ c.give_up-body.ensures.body ∙ joined) (omega (arith, c.len.ensures.value, r.room))
    (omega (arith, c.if-rest-missing.false)) in
    nothing_after c.args.piece.now _ _ _ _ _ c.give_up-body.ensures.nothing.0 c.give_up-body.ensures.nothing.1
    (packet_whole _ c.args.piece.now c.args.self.now.body.items c.as_slice.result.now c.in-Whole.frame c.in-Whole.begin missing _ r c.in_default.not-Message fills c.in_ok-packet.ensures.packet c.in_ok-packet.ensures.kind c.in_ok-packet.ensures.body)
