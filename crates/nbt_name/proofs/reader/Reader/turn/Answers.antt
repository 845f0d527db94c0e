use Rattle.std.proofs.Common.{refl}
use Rattle.nbt_name.proofs.Common.{missing}
use Rattle.nbt_name.proofs.Looks.{none_at, some_at}
use Rattle.nbt_name.proofs.reader.Reader.turn.Goals as goal

pub returns-in_default : goal.returns-in_default
returns-in_default c = λ scope size. rw c.short.ensures (missing (none_at c.args.octets.now _ c.in_default.ensures.lookup.0))

pub follow-requires-clause-finds : goal.follow-requires-clause-finds
follow-requires-clause-finds c = some_at c.args.octets.now _ _ c.in-Some.ensures.lookup.0 c.in-Some.ensures.lookup.1

pub pass_letters-requires-clause-finds : goal.pass_letters-requires-clause-finds
pass_letters-requires-clause-finds c = some_at c.args.octets.now _ _ c.in-Some.ensures.lookup.0 c.in-Some.ensures.lookup.1

pub returns-in-Some-first : goal.returns-in-Some-first
returns-in-Some-first c =
    let found = some_at c.args.octets.now _ _ c.in-Some.ensures.lookup.0 c.in-Some.ensures.lookup.1 in
    (refl, c.in-Some-first.is, rw c.if-count-eq0.true at found)

pub pass_label-requires-clause-later : goal.pass_label-requires-clause-later
pass_label-requires-clause-later c = (c.in-Some-2.field-0, c.in-Some-2.is, c.args.self.now.whole c.in-Some-2.field-0 c.in-Some-2.is)

pub pass_label-requires-clause-finds : goal.pass_label-requires-clause-finds
pass_label-requires-clause-finds c = some_at c.args.octets.now _ _ c.in-Some.ensures.lookup.0 c.in-Some.ensures.lookup.1
