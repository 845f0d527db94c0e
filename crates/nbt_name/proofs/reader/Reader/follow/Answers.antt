use Rattle.std.proofs.Common.{Some, arith, refl, ap, sym}
use Rattle.nbt_name.proofs.Common.{pointer_leads, pointer_plain, pointer_cut, pointer_onward}
use Rattle.nbt_name.proofs.Looks.{none_at, some_at}
use Rattle.nbt_name.proofs.Passing.{Step-to}
use Rattle.nbt_name.proofs.reader.Reader.follow.Goals as goal

pub returns-in_default : goal.returns-in_default
returns-in_default c = λ scope size. rw c.fault.ensures (pointer_plain c.args.high c.in_default.is c.requires.finds c.requires.pointer)

pub returns-in_default-get : goal.returns-in_default-get
returns-in_default-get c = λ scope size. rw c.short.ensures (pointer_cut c.args.high c.in-Compressed.is c.requires.finds c.requires.pointer (none_at c.args.octets.now _ c.in_default-get.ensures.lookup.0))

pub returns-then-target-self : goal.returns-then-target-self
returns-then-target-self c = λ scope size.
    let low = some_at c.args.octets.now _ _ c.in-Some.ensures.lookup.0 c.in-Some.ensures.lookup.1 in
    rw c.fault-then-target-self.ensures (pointer_onward c.args.high c.in-Some.field-0.now c.in-Compressed.is c.requires.finds c.requires.pointer low (omega arith))

pub returns : goal.returns
returns c = λ scope size.
    let low = some_at c.args.octets.now _ _ c.in-Some.ensures.lookup.0 c.in-Some.ensures.lookup.1 in (
      scope,
      size,
      Step-to _ _ _ _ (pointer_leads c.args.high c.in-Some.field-0.now c.in-Compressed.is c.requires.finds c.requires.pointer low (omega arith)) (omega arith) refl (ap Some (sym c.unwrap_or.ensures)),
    )
