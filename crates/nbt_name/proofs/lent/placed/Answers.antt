use Rattle.std.proofs.Common.{◌≡◌, ℕ, ◌+◌, List, [], ◌∷◌, ◌++◌, length, Option, Some, None, IfSome, IfNone, Bor, sym, subst, ◌∙◌, arith}
use Rattle.nbt_name.proofs.Common.{slice_index, letters, name_of, IsName, Stands}
use Rattle.nbt_name.proofs.Fits.{length-first}
use Rattle.nbt_name.proofs.Letters.{length-letters}
use Rattle.nbt_name.proofs.Places.{name_stands, one_row, same_front}
use Rattle.nbt_name.proofs.lent.placed.Goals as goal

-- what is left of a name's labels once the first one is taken
after_first : (sixteen scope old new : List ℕ) (taken : Option (Bor (List ℕ))) → length sixteen ≡ 16 → old ≡ 0x20 ∷ letters sixteen ++ scope
    → IfSome taken (λ label. (old ≡ label.now ++ new) × (length label.now ≡ slice_index label.now 0 + 1)) → IfNone taken (old ≡ []) → new ≡ scope
after_first sixteen scope old new None count all some none = let nothing : [] ≡ 0x20 ∷ letters sixteen ++ scope = sym none ∙ all in absurd cc
after_first sixteen scope old new (Some label) count all some none =
    (same_front label.now (0x20 ∷ letters sixteen) new scope some.1 (omega (arith, length-letters sixteen, count)) (sym some.0 ∙ all)).1

pub at-labels-requires-clause-stand : goal.at-labels-requires-clause-stand
at-labels-requires-clause-stand c =
    let scope = c.requires.stands.0 in
    let stands = c.requires.stands.2 in (
      0x20 ∷ letters c.args.sixteen ++ scope,
      length-first c.args.sixteen scope stands.closes.is_name,
      name_stands c.args.octets.now c.args.place _ c.args.next stands,
    )

left : (c : goal.After-next) → c.next.new.self ≡ c.requires.stands.0
left c =
    let stands = c.requires.stands.2 in
    after_first c.args.sixteen c.requires.stands.0 c.at-labels.result c.next.new.self c.next.result stands.closes.is_name.sixteen
    (one_row c.args.octets.now c.args.place c.at-labels.result _ c.at-labels.ensures (name_stands c.args.octets.now c.args.place _ c.args.next stands)) c.next.ensures.label c.next.ensures.none

pub invariant_of-result-2 : goal.invariant_of-result-2
invariant_of-result-2 c = subst (λ (s : List ℕ). IsName (name_of c.args.sixteen s)) (sym (left c)) c.requires.stands.2.closes.is_name

pub returns : goal.returns
returns c = subst (λ (s : List ℕ). Stands c.args.form c.args.octets.now c.args.place (name_of c.args.sixteen s) c.args.next) (sym (left c)) c.requires.stands.2
