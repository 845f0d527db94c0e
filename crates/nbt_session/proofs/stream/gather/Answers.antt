use Rattle.std.proofs.Common.{◌≡◌, ◌++◌, refl, subst}
use Rattle.std.proofs.lemmas.Result.{err_from_is_err_and}
use Rattle.nbt_name.specs.Wire.{AreOctets}
use Rattle.nbt_session.proofs.Gathering.{after_start, after_data, after_nothing, after_end, after_other, after_fault}
use Rattle.nbt_session.proofs.stream.gather.Goals as goal

pub returns-in_err-count-clause-gathers : goal.returns-in_err-count-clause-gathers
returns-in_err-count-clause-gathers c =
    let p = err_from_is_err_and c.from_residual.result c.from_residual.ensures.1 in
    rw (p.1, p.2) (after_fault c.args.piece.now _ c.args.message.now.items c.parts.taken _ c.parts.pieces c.take.new.self c.args.pieces.now c.parts.message.items refl c.parts.invariant c.in_err-count.ensures.takes)

pub returns-in-None-clause-gathers : goal.returns-in-None-clause-gathers
returns-in-None-clause-gathers c =
    let takes = rw c.in-None.is at c.in_ok-count.ensures.takes in
    after_nothing c.args.piece.now _ c.args.message.now.items c.parts.taken c.in_ok-count.count c.parts.pieces c.take.new.self c.parts.message.items c.parts.invariant takes c.in_ok-count.ensures.held_octets

pub parts-preserved-in-Some-MessageStart : goal.parts-preserved-in-Some-MessageStart
parts-preserved-in-Some-MessageStart c =
    let part = rw c.in-Some-MessageStart.is at c.in_ok-count.ensures.takes in
    let takes = rw c.in-Some-MessageStart.field-0-is at part in
    (after_start c.args.piece.now _ c.args.message.now.items c.parts.taken c.in_ok-count.count c.in-Some-MessageStart.field-0-0 c.parts.pieces c.take.new.self c.parts.message.items c.parts.invariant takes).so_far

pub parts-preserved : goal.parts-preserved
parts-preserved c =
    let part = rw c.in-Some-MessageData.is at c.in_ok-count.ensures.takes in
    let takes = rw c.in-Some-MessageData.field-0-is at part in
    let same = c.in-Some-MessageData.octets-is in
    let joined = c.in_ok-extend_from_slice-in-Some-MessageData.ensures.items in
    let after : c.extend_from_slice.new.self.items ≡ c.parts.message.items ++ c.in-Some-MessageData.octets.now = cc in
    (after_data c.args.piece.now _ c.args.message.now.items c.parts.taken c.in_ok-count.count c.in-Some-MessageData.octets.now c.parts.pieces c.take.new.self c.parts.message.items c.extend_from_slice.new.self.items c.parts.invariant takes after).so_far

pub parts-smaller : goal.parts-smaller
parts-smaller c =
    let part = rw c.in-Some-MessageData.is at c.in_ok-count.ensures.takes in
    let takes = rw c.in-Some-MessageData.field-0-is at part in
    let same = c.in-Some-MessageData.octets-is in
    let joined = c.in_ok-extend_from_slice-in-Some-MessageData.ensures.items in
    let after : c.extend_from_slice.new.self.items ≡ c.parts.message.items ++ c.in-Some-MessageData.octets.now = cc in
    (after_data c.args.piece.now _ c.args.message.now.items c.parts.taken c.in_ok-count.count c.in-Some-MessageData.octets.now c.parts.pieces c.take.new.self c.parts.message.items c.extend_from_slice.new.self.items c.parts.invariant takes after).nearer

pub returns-in-Some-MessageEnd-clause-gathers : goal.returns-in-Some-MessageEnd-clause-gathers
returns-in-Some-MessageEnd-clause-gathers c =
    let part = rw c.in-Some-MessageEnd.is at c.in_ok-count.ensures.takes in
    let takes = rw c.in-Some-MessageEnd.field-0-is at part in
    let are : AreOctets c.parts.message.items = subst AreOctets c.give_up.ensures.octets c.give_up.ensures.fits in
    after_end c.args.piece.now _ c.args.message.now.items c.parts.taken c.in_ok-count.count c.parts.pieces c.take.new.self c.parts.message.items c.give_up.result.items c.give_up.new.message.items c.parts.invariant are takes c.give_up.ensures.octets c.give_up.ensures.nothing

pub returns-in-Some-Other-clause-gathers : goal.returns-in-Some-Other-clause-gathers
returns-in-Some-Other-clause-gathers c =
    let part = rw c.in-Some-Other.is at c.in_ok-count.ensures.takes in
    let takes = rw c.in-Some-Other.field-0-is at part in
    after_other c.args.piece.now _ c.args.message.now.items c.parts.taken c.in_ok-count.count c.parts.pieces c.take.new.self c.parts.message.items _ c.parts.invariant takes
