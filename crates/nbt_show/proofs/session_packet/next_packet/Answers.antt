use Rattle.std.proofs.Common.{refl, take, drop, ◌+◌, ◌-◌}
use Rattle.std.proofs.lemmas.Result.{err_from_is_err_and}
use Rattle.nbt_show.proofs.NextPacket.{at_first, after_start, after_data, message_found, other_found, none_found, fault_found, fault_returned}
use Rattle.nbt_show.proofs.session_packet.next_packet.Goals as goal

pub parts-init : goal.parts-init
parts-init c = at_first c.args.octets.now c.args.pieces.now c.requires

pub returns-in_err-count-clause-fault : goal.returns-in_err-count-clause-fault
returns-in_err-count-clause-fault c fault is =
    let p = err_from_is_err_and c.from_residual.result c.from_residual.ensures.1 in
    fault_found c.args.octets.now c.parts.begin c.parts.taken _ c.parts.pieces c.take.new.self c.parts.invariant c.in_err-count.ensures.takes fault (fault_returned c.from_residual.result p.0 _ fault p.1 p.2 is)

pub returns-in-None-clause-partial : goal.returns-in-None-clause-partial
returns-in-None-clause-partial c =
    let takes = rw c.in-None.is at c.in_ok-count.ensures.takes in
    (none_found c.a_message_that_lacks_octets.ensures c.args.octets.now c.parts.begin c.parts.taken c.in_ok-count.count c.parts.pieces c.take.new.self c.parts.invariant takes).0

pub returns-in-None-clause-sound : goal.returns-in-None-clause-sound
returns-in-None-clause-sound c =
    let takes = rw c.in-None.is at c.in_ok-count.ensures.takes in
    (none_found c.a_message_that_lacks_octets.ensures c.args.octets.now c.parts.begin c.parts.taken c.in_ok-count.count c.parts.pieces c.take.new.self c.parts.invariant takes).1

pub parts-preserved-in-Some-MessageStart : goal.parts-preserved-in-Some-MessageStart
parts-preserved-in-Some-MessageStart c =
    let part = rw c.in-Some-MessageStart.is at c.in_ok-count.ensures.takes in
    let takes = rw c.in-Some-MessageStart.field-0-is at part in
    (after_start c.args.octets.now c.parts.begin c.parts.taken c.in_ok-count.count c.in-Some-MessageStart.field-0-0 c.parts.pieces c.take.new.self c.parts.invariant takes).so_far

pub parts-smaller-in-Some-MessageStart : goal.parts-smaller-in-Some-MessageStart
parts-smaller-in-Some-MessageStart c =
    let part = rw c.in-Some-MessageStart.is at c.in_ok-count.ensures.takes in
    let takes = rw c.in-Some-MessageStart.field-0-is at part in
    (after_start c.args.octets.now c.parts.begin c.parts.taken c.in_ok-count.count c.in-Some-MessageStart.field-0-0 c.parts.pieces c.take.new.self c.parts.invariant takes).nearer

pub parts-preserved : goal.parts-preserved
parts-preserved c =
    let part = rw c.in-Some-MessageData.is at c.in_ok-count.ensures.takes in
    let takes = rw c.in-Some-MessageData.field-0-is at part in
    (after_data c.args.octets.now c.parts.begin c.parts.taken c.in_ok-count.count _ c.parts.pieces c.take.new.self c.parts.invariant takes).so_far

pub parts-smaller : goal.parts-smaller
parts-smaller c =
    let part = rw c.in-Some-MessageData.is at c.in_ok-count.ensures.takes in
    let takes = rw c.in-Some-MessageData.field-0-is at part in
    (after_data c.args.octets.now c.parts.begin c.parts.taken c.in_ok-count.count _ c.parts.pieces c.take.new.self c.parts.invariant takes).nearer

pub returns-in-Some-MessageEnd-clause-whole : goal.returns-in-Some-MessageEnd-clause-whole
returns-in-Some-MessageEnd-clause-whole c =
    let part = rw c.in-Some-MessageEnd.is at c.in_ok-count.ensures.takes in
    let takes = rw c.in-Some-MessageEnd.field-0-is at part in
    (message_found c.args.octets.now c.parts.begin c.parts.taken c.in_ok-count.count (take (c.parts.taken + c.in_ok-count.count - c.parts.begin) (drop c.parts.begin c.args.octets.now)) c.parts.pieces c.take.new.self c.parts.invariant takes refl).begins

pub returns-in-Some-MessageEnd-clause-anew : goal.returns-in-Some-MessageEnd-clause-anew
returns-in-Some-MessageEnd-clause-anew c =
    let part = rw c.in-Some-MessageEnd.is at c.in_ok-count.ensures.takes in
    let takes = rw c.in-Some-MessageEnd.field-0-is at part in
    (message_found c.args.octets.now c.parts.begin c.parts.taken c.in_ok-count.count (take (c.parts.taken + c.in_ok-count.count - c.parts.begin) (drop c.parts.begin c.args.octets.now)) c.parts.pieces c.take.new.self c.parts.invariant takes refl).anew

pub returns-in-Some-Other-clause-whole : goal.returns-in-Some-Other-clause-whole
returns-in-Some-Other-clause-whole c =
    let part = rw c.in-Some-Other.is at c.in_ok-count.ensures.takes in
    let takes = rw c.in-Some-Other.field-0-is at part in
    (other_found c.args.octets.now c.parts.begin c.parts.taken c.in_ok-count.count _ c.parts.pieces c.take.new.self c.parts.invariant takes).begins

pub returns-in-Some-Other-clause-anew : goal.returns-in-Some-Other-clause-anew
returns-in-Some-Other-clause-anew c =
    let part = rw c.in-Some-Other.is at c.in_ok-count.ensures.takes in
    let takes = rw c.in-Some-Other.field-0-is at part in
    (other_found c.args.octets.now c.parts.begin c.parts.taken c.in_ok-count.count _ c.parts.pieces c.take.new.self c.parts.invariant takes).anew
