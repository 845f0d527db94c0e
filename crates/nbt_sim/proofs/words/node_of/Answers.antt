use Rattle.std.proofs.Common.{◌≡◌, ◌+◌, ℕ, List, length, get_or, ap, refl, arith, rules}
use Rattle.nbt_sim.proofs.Spelled.{node_word, no_node, one_node}
use Rattle.nbt_sim.proofs.Texts.{two_octets}
use Rattle.nbt_sim.proofs.words.node_of.Goals.{then-digit-lt49-via-then-digit-lt49, then-digit-lt49-via-else-digit-lt49+then-digit-gt56}
use Rattle.nbt_sim.proofs.words.node_of.Goals as goal

pub returns-in_default : goal.returns-in_default
returns-in_default c = λ n. no_node c.args.word.now n (λ s. omega (arith, ap length (node_word c.args.word.now n s), c.in_default.len_below))

pub returns-in_default-3 : goal.returns-in_default-3
returns-in_default-3 c = λ n. no_node c.args.word.now n (λ s. omega (arith, ap length (node_word c.args.word.now n s), c.in_default.len_at_least))

pub returns-then-digit-lt49 : goal.returns-then-digit-lt49
returns-then-digit-lt49 c = λ n. no_node c.args.word.now n (λ s.
    let digit : get_or c.args.word.now 1 0 ≡ 48 + n = ap (λ (x : List ℕ). get_or x 1 0) (node_word c.args.word.now n s) in
    let some = s.some in
    let few = s.few in
    elim c.then-digit-lt49.branch [
      | then-digit-lt49-via-then-digit-lt49 w ↦ let low = w.if-digit-lt49.true in omega (arith, digit, some, low)
      | then-digit-lt49-via-else-digit-lt49+then-digit-gt56 w ↦ let high = w.if-digit-gt56.true in omega (arith, digit, few, high)
    ])

pub returns : goal.returns
returns c = λ n. one_node c.args.word.now (get_or c.args.word.now 1 0) c.from.result n (two_octets c.args.word.now 110 _ (omega (arith, c.in-110.len_at_least, c.in-110.len_below)) (search rules) refl) (omega (arith, c.if-digit-lt49.false)) (omega (arith, c.if-digit-gt56.false)) (search rules)
