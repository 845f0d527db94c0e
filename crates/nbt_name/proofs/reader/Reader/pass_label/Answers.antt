use Rattle.std.proofs.Common.{◌≡◌, ℕ, ◌+◌, List, ◌++◌, length, ap, ◌∙◌, arith, refl}
use Rattle.nbt_name.proofs.Common.{slice_range, length-append, label_passes, label_bad, label_long, label_cut}
use Rattle.nbt_name.proofs.Passing.{Step-to, later_passed, length-passed, label_passed}
use Rattle.nbt_name.proofs.WireForms.{length-range}
use Rattle.nbt_name.proofs.reader.Reader.pass_label.Goals as goal

pub returns-then-count-gt-LABEL_MOST : goal.returns-then-count-gt-LABEL_MOST
returns-then-count-gt-LABEL_MOST c = λ form scope size.
    rw c.fault.ensures (label_bad c.args.count (later_passed _ _ _ c.requires.later.1) c.requires.finds (omega arith) c.requires.label.1)

pub returns-then-self-count-gt-WIRE_MOST : goal.returns-then-self-count-gt-WIRE_MOST
returns-then-self-count-gt-WIRE_MOST c = λ form scope size.
    let long = length-passed c.args.self.now.first scope _ c.requires.later.1 c.requires.later.2 in
    rw c.fault-then-self-count-gt-WIRE_MOST.ensures (label_long c.args.count (later_passed _ _ _ c.requires.later.1) c.requires.finds (omega arith) (omega arith) (omega arith))

pub returns-then-octets-self : goal.returns-then-octets-self
returns-then-octets-self c = λ form scope size.
    let long = length-passed c.args.self.now.first scope _ c.requires.later.1 c.requires.later.2 in
    rw c.short.ensures (label_cut c.args.count (later_passed _ _ _ c.requires.later.1) c.requires.finds (omega arith) (omega arith) (omega arith) (omega arith))

pub returns : goal.returns
returns c = λ form scope size.
    let long = length-passed c.args.self.now.first scope _ c.requires.later.1 c.requires.later.2 in
    let place = c.args.self.now.place in
    let label : List ℕ = slice_range c.args.octets.now place (place + 1 + c.from-count.result) in
    let count : length label ≡ 1 + c.from-count.result =
    ap (λ (n : ℕ). length (slice_range c.args.octets.now place n)) (omega arith) ∙ length-range c.args.octets.now place (1 + c.from-count.result) (omega arith) in (
      scope ++ label,
      omega (arith, length-append scope label, count, size),
      Step-to _ _ _ _ (label_passes c.args.count (later_passed _ _ _ c.requires.later.1) c.requires.finds (omega arith) (omega arith) (omega arith) (omega arith))
          (omega arith)
          (label_passed c.args.self.now.first scope _ c.args.octets.now _ place c.args.count c.from-count.result c.requires.later.1 c.requires.finds c.from-count.ensures refl)
          refl,
    )
