use Rattle.std.proofs.Common.{◌≡◌, ℕ, [], ◌∷◌, ◌++◌, refl, ◌∙◌, ap}
use Rattle.nbt_text.specs.SuffixedNames.{IsSuffix, after_hash, in_brackets}
use Rattle.nbt_text.proofs.Deciding.{IfSome-map}
use Rattle.nbt_text.proofs.suffixed_reading.suffix_of.Goals as goal

pub returns-then-mark-eq35-clause-read : goal.returns-then-mark-eq35-clause-read
returns-then-mark-eq35-clause-read c =
    let begins : c.args.tail.now ≡ c.in-Some.field-0-0.now ∷ c.in-Some.rest.now = c.in-Some.ensures.cases.0 in
    let mark = c.in-Some.mark-is in
    let test = c.if-mark-eq35.true in
    let hash : c.in-Some.field-0-0.now ≡ 0x23 = cc in
    let whole : c.args.tail.now ≡ 0x23 ∷ c.in-Some.rest.now = begins ∙ ap (λ (m : ℕ). m ∷ c.in-Some.rest.now) hash in
    IfSome-map _ (IsSuffix c.args.usual c.args.tail.now) c.octet_of.result c.octet_of.ensures.read (λ suffix d. after_hash c.in-Some.rest.now whole d)

pub returns-in-Some-split_last-clause-read : goal.returns-in-Some-split_last-clause-read
returns-in-Some-split_last-clause-read c =
    let begins : c.args.tail.now ≡ c.in-Some.field-0-0.now ∷ c.in-Some.rest.now = c.in-Some.ensures.cases.0 in
    let mark = c.in-Some.mark-is in
    let first = c.if-mark-eq60.true in
    let opens : c.in-Some.field-0-0.now ≡ 0x3C = cc in
    let ends : c.in-Some.rest.now ≡ c.in-Some-split_last.digits.now ++ c.in-Some-split_last.field-0-0.now ∷ [] = c.in-Some-split_last.ensures.cases.0 in
    let end = c.in-Some-split_last.end-is in
    let last = c.if-end-eq62.true in
    let closes : c.in-Some-split_last.field-0-0.now ≡ 0x3E = cc in
    let whole : c.args.tail.now ≡ 0x3C ∷ (c.in-Some-split_last.digits.now ++ 0x3E ∷ []) = begins ∙ rw (opens, ends, closes) refl in
    IfSome-map _ (IsSuffix c.args.usual c.args.tail.now) c.octet_of-in-Some-split_last.result c.octet_of-in-Some-split_last.ensures.read (λ suffix d. in_brackets c.in-Some-split_last.digits.now whole d)
