use Rattle.nbt_c.proofs.Common.{◌≡◌, List, map, Some, refl, ap, subst, ◌∙◌, slice_get, NameValue, Dgram, dgram_of, IsSplit, SplitsFor, octets_of, at_least, given}
use Rattle.nbt_c.specs.Datagrams as is
use Rattle.nbt_c.proofs.Packets.{packets_have_room}
use Rattle.nbt_c.proofs.splitting.cut.Goals as goal

pub returns-in_default : goal.returns-in_default
returns-in_default c =
    given (SplitsFor c.args.kind c.args.id c.args.own c.args.source.now c.args.destination.now c.args.data.now) refl c.clear.ensures c.clear-2.ensures (is.SplitsFor.has_no_source c.in_default.ensures.none)

pub returns-in_default-lend : goal.returns-in_default-lend
returns-in_default-lend c =
    given (SplitsFor c.args.kind c.args.id c.args.own c.args.source.now c.args.destination.now c.args.data.now) refl c.clear.ensures c.clear-2.ensures
    (is.SplitsFor.has_no_destination c.in-Some.ensures.read.0 c.in_default-lend.ensures.none)

pub returns-in_default-delivery_of : goal.returns-in_default-delivery_of
returns-in_default-delivery_of c =
    given (SplitsFor c.args.kind c.args.id c.args.own c.args.source.now c.args.destination.now c.args.data.now) refl c.clear.ensures c.clear-2.ensures
    (is.SplitsFor.has_no_kind c.in-Some.ensures.read.0 c.in-Some-lend.ensures.read.0 (λ delivery kind. let found = (c.in_default-delivery_of.ensures delivery).1 kind in absurd cc))

pub write-requires-clause-fits : goal.write-requires-clause-fits
write-requires-clause-fits c = λ d e.
    packets_have_room _ _ _ _ _ _ (at_least c.in-Ok.ensures.long) c.in-Ok.ensures.split 0 d (subst (λ (packets : List Dgram). slice_get (map dgram_of packets) 0 ≡ Some d) c.as_slice.ensures.value e)

pub write-requires-in-Ok-clause-fits : goal.write-requires-in-Ok-clause-fits
write-requires-in-Ok-clause-fits c = λ d e.
    packets_have_room _ _ _ _ _ _ (at_least c.in-Ok.ensures.long) c.in-Ok.ensures.split 1 d (subst (λ (packets : List Dgram). slice_get (map dgram_of packets) 1 ≡ Some d) c.as_slice-in-Ok.ensures.value e)

pub returns-in-Ok : goal.returns-in-Ok
returns-in-Ok c =
    let source = c.in-Some.ensures.read in
    let destination = c.in-Some-lend.ensures.read in
    let delivery = c.in-Some-delivery_of.delivery in
    let packets = map dgram_of c.in-Ok.packets.items in
    let split = subst (λ (w : NameValue × NameValue). IsSplit delivery c.args.id c.args.own (record { source = w.0; destination = w.1 }) c.args.data.now packets) (λ i. (source.1 i, destination.1 i)) c.in-Ok.ensures.split in
    given (SplitsFor c.args.kind c.args.id c.args.own c.args.source.now c.args.destination.now c.args.data.now) refl
    (c.write.ensures ∙ ap (λ (xs : List Dgram). octets_of (slice_get (map dgram_of xs) 0)) c.as_slice.ensures.value)
    (c.write-in-Ok.ensures ∙ ap (λ (xs : List Dgram). octets_of (slice_get (map dgram_of xs) 1)) c.as_slice-in-Ok.ensures.value)
    (is.SplitsFor.splits delivery packets source.0 destination.0 ((c.in-Some-delivery_of.ensures delivery).0 refl) split)

pub returns-in-Err : goal.returns-in-Err
returns-in-Err c =
    let delivery = c.in-Some-delivery_of.delivery in
    given (SplitsFor c.args.kind c.args.id c.args.own c.args.source.now c.args.destination.now c.args.data.now) c.number.ensures c.clear.ensures c.clear-2.ensures
    (is.SplitsFor.has_much delivery c.in-Some.ensures.read.0 c.in-Some-lend.ensures.read.0 ((c.in-Some-delivery_of.ensures delivery).0 refl) (c.in-Err.ensures.long.0 refl))
