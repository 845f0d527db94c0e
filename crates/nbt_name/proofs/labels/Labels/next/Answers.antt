use Rattle.std.proofs.Common.{◌<◌, length, ap, arith}
use Rattle.nbt_name.proofs.Common.{slice_index}
use Rattle.nbt_name.proofs.Places.{take_label}
use Rattle.nbt_name.proofs.labels.Labels.next.Goals as goal
use Rattle.nbt_name.proofs.labels.Labels.next.Goals.{then-pointers-test+else-octets-place-ge-POINTER, else-pointers-test}

pub invariant_of-self : goal.invariant_of-self
invariant_of-self c =
    let small : slice_index c.self.inside.octets.now c.pointers.place < 0xC0 =
    elim c.pointers-test.branch [ then-pointers-test+else-octets-place-ge-POINTER w ↦ omega (arith, w.if-octets-place-ge-POINTER.false) | else-pointers-test w ↦ omega (arith, w.pointers-test.false) ] in
    (take_label c.self.inside.octets.now c.pointers.place c.from-2.result c.args.self.now c.pointers.invariant.1 (omega (arith, ap length c.self.view_is, c.self.invariant.few)) (omega arith) small (omega arith)).others

pub returns-clause-label : goal.returns-clause-label
returns-clause-label c =
    let small : slice_index c.self.inside.octets.now c.pointers.place < 0xC0 =
    elim c.pointers-test.branch [ then-pointers-test+else-octets-place-ge-POINTER w ↦ omega (arith, w.if-octets-place-ge-POINTER.false) | else-pointers-test w ↦ omega (arith, w.pointers-test.false) ] in
    let taken = take_label c.self.inside.octets.now c.pointers.place c.from-2.result c.args.self.now c.pointers.invariant.1 (omega (arith, ap length c.self.view_is, c.self.invariant.few)) (omega arith) small (omega arith) in
    (taken.are, taken.whole)
