use Rattle.std.proofs.Common.{◌≡◌, None, Some, refl, arith, sym, ◌∙◌, Option}
use Rattle.nbt_dgram.specs.declared.msg_type.MsgType.{MsgType}
use Rattle.nbt_dgram.specs.Dgram.{nothing_there, type_bad, head_cut}
use Rattle.nbt_dgram.proofs.Octets.{none_is_empty, first_is}
use Rattle.nbt_dgram.proofs.decoding.type_at.Goals as goal

pub returns-in_default-clause-fault : goal.returns-in_default-clause-fault
returns-in_default-clause-fault c = rw c.short_of.ensures (nothing_there (none_is_empty _ (sym c.in_default.ensures.value)))

pub returns-in_default-of-clause-fault : goal.returns-in_default-of-clause-fault
returns-in_default-of-clause-fault c =
    let first = first_is c.args.octets.now _ (sym c.in-Some.ensures.value) in
    type_bad first.0 (λ t e. let same : ◌≡◌ {A = Option MsgType} None (Some t) = (c.in_default-of.ensures t).1 (sym first.1 ∙ e) in absurd cc)

pub returns-then-octets-least_of-clause-fault : goal.returns-then-octets-least_of-clause-fault
returns-then-octets-least_of-clause-fault c =
    let first = first_is c.args.octets.now _ (sym c.in-Some.ensures.value) in
    rw c.short_of-then-octets-least_of.ensures
    (head_cut c.in-Some-of.msg_type (first.0, first.1 ∙ (c.in-Some-of.ensures c.in-Some-of.msg_type).0 refl) (omega (arith, c.least_of.ensures)))
