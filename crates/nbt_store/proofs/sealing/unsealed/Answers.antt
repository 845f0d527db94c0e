use Rattle.std.proofs.Common.{◌≡◌, ◌∙◌, ℕ, List, false, sym, ap, arith}
use Rattle.std.specs.Str.{bytes_eq}
use Rattle.std.proofs.lemmas.Bool.{false≢true}
use Rattle.std.proofs.lemmas.Slice.Eq.{bytes_eq-Decides}
use Rattle.nbt_store.specs.Checksum.{checksum, seal_digits}
use Rattle.nbt_store.proofs.Seals.{sealed_size, front_is_body, back_is_seal}
use Rattle.nbt_store.proofs.sealing.unsealed.Goals as goal

not_same : (a b : List ℕ) → a ≡ b → bytes_eq a b ≡ false → ⊥
not_same a b e differs = false≢true (sym differs ∙ (bytes_eq-Decides a b).1 e)

pub returns-then-line-lt-SEAL-clause-only : goal.returns-then-line-lt-SEAL-clause-only
returns-then-line-lt-SEAL-clause-only c = λ body e. let size = sealed_size c.args.before c.args.line.now body e in absurd (omega (arith, c.if-line-lt-SEAL.true))

pub returns-then-eq-clause-only : goal.returns-then-eq-clause-only
returns-then-eq-clause-only c = λ body e. c.split_at.ensures.front ∙ front_is_body c.args.before c.args.line.now body _ e (omega (arith, c.if-line-lt-SEAL.false))

pub returns-else-eq-clause-only : goal.returns-else-eq-clause-only
returns-else-eq-clause-only c = λ body e.
    let front : c.split_at.result.0.now ≡ body = c.split_at.ensures.front ∙ front_is_body c.args.before c.args.line.now body _ e (omega (arith, c.if-line-lt-SEAL.false)) in
    let back : c.split_at.result.1.now ≡ seal_digits (checksum c.args.before body) = c.split_at.ensures.back ∙ back_is_seal c.args.before c.args.line.now body _ e (omega (arith, c.if-line-lt-SEAL.false)) in
    let same : c.as_slice.result.now ≡ seal_digits (checksum c.args.before body) = c.as_slice.ensures.value ∙ c.seal_of.ensures ∙ ap seal_digits (c.checksum-sum.ensures ∙ ap (checksum c.args.before) front) in
    not_same c.split_at.result.1.now c.as_slice.result.now (back ∙ sym same) (sym c.eq.ensures ∙ c.if-eq.false)
