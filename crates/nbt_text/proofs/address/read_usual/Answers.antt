use Rattle.std.proofs.Common.{inl, inr}
use Rattle.nbt_text.proofs.Times.{has_colon}
use Rattle.nbt_text.proofs.address.read_usual.Goals as goal

pub returns-in-Some : goal.returns-in-Some
returns-in-Some c = λ address.
    let has = has_colon c.args.text.now c.as_bytes.result.now c.split_at_first.result.0.now c.split_at_first.result.1 _ c.as_bytes.ensures.value c.split_at_first.ensures.whole c.in-Some.is in (
      λ e. inl (has, (c.parse_address.ensures address).0 e),
      λ s. elim s [ inl p ↦ (c.parse_address.ensures address).1 p.1 | inr p ↦ absurd (has p.0) ],
    )
