use Rattle.std.proofs.Common.{◌*◌, ◌/◌, ◌∙◌, ℕ, ap, arith}
use Rattle.nbt_scan.proofs.Spelling.{margin_short, margin_long}
use Rattle.nbt_scan.proofs.words.span_with.Goals as goal

pub returns-then-bits-lt-BITS_OF_HOSTS-clause-first : goal.returns-then-bits-lt-BITS_OF_HOSTS-clause-first
returns-then-bits-lt-BITS_OF_HOSTS-clause-first c =
    let whole = c.base_of-base.ensures.value ∙ ap (λ (n : ℕ). c.args.ip / n * n) c.size_of-size.ensures.value in
    omega (arith, whole, margin_short c.args.bits c.if-bits-lt-BITS_OF_HOSTS.true)

pub returns-then-bits-lt-BITS_OF_HOSTS-clause-last : goal.returns-then-bits-lt-BITS_OF_HOSTS-clause-last
returns-then-bits-lt-BITS_OF_HOSTS-clause-last c =
    let whole = c.base_of-base.ensures.value ∙ ap (λ (n : ℕ). c.args.ip / n * n) c.size_of-size.ensures.value in
    omega (arith, whole, c.size_of-size.ensures.value, c.size_of-size.ensures.four c.if-bits-lt-BITS_OF_HOSTS.true, margin_short c.args.bits c.if-bits-lt-BITS_OF_HOSTS.true)

pub returns-clause-first : goal.returns-clause-first
returns-clause-first c =
    let whole = c.base_of-base.ensures.value ∙ ap (λ (n : ℕ). c.args.ip / n * n) c.size_of-size.ensures.value in
    omega (arith, whole, margin_long c.args.bits c.if-bits-lt-BITS_OF_HOSTS.false)

pub returns-clause-last : goal.returns-clause-last
returns-clause-last c =
    let whole = c.base_of-base.ensures.value ∙ ap (λ (n : ℕ). c.args.ip / n * n) c.size_of-size.ensures.value in
    omega (arith, whole, c.size_of-size.ensures.value, c.size_of-size.ensures.some, margin_long c.args.bits c.if-bits-lt-BITS_OF_HOSTS.false)
