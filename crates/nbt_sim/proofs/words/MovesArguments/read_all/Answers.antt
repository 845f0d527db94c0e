use Rattle.std.proofs.Common.{◌≡◌, ◌+◌, ℕ, List, length, drop, sym, ap, subst, arith}
use Rattle.nbt_text.specs.Texts.{texts}
use Rattle.nbt_sim.proofs.Texts.{lost, texts_from, no_texts_left}
use Rattle.nbt_sim.proofs.Spelled.{AreSpelled, none_spelled, one_spelled, no_number, too_many, all_spelled}
use Rattle.nbt_sim.proofs.words.MovesArguments.read_all.Goals as goal

pub returns-then-words-gt-ENDS_MOST : goal.returns-then-words-gt-ENDS_MOST
returns-then-words-gt-ENDS_MOST c = λ m. too_many c.args.words.now m (omega (arith, c.if-words-gt-ENDS_MOST.true))

pub loop-word-init : goal.loop-word-init
loop-word-init c =
    let none : length c.new-moves.result.items ≡ 0 = ap length c.new-moves.ensures in
    record {
      so_far = subst (λ (x : List ℕ). AreSpelled (texts c.args.words.now) (texts c.args.words.now) x) (sym c.new-moves.ensures) (none_spelled (texts c.args.words.now));
      count = none;
      few = omega (arith, none);
    }

pub returns-in_err-parse_number : goal.returns-in_err-parse_number
returns-in_err-parse_number c = λ m.
    let left = texts_from c.args.words.now c.loop-word.word-index lost (omega (arith, c.loop-word-test.true)) in
    no_number _ _ (texts c.args.words.now) c.loop-word.moves.items c.parse_number.result c.from_residual.result m (rw left at c.loop-word.invariant.so_far) c.parse_number.ensures c.in_err-parse_number.was c.from_residual.ensures

pub loop-word-preserved : goal.loop-word-preserved
loop-word-preserved c =
    let left = texts_from c.args.words.now c.loop-word.word-index lost (omega (arith, c.loop-word-test.true)) in
    let more = one_spelled _ _ (texts c.args.words.now) c.loop-word.moves.items c.parse_number.result c.in_ok-parse_number.field-0 (rw left at c.loop-word.invariant.so_far) c.parse_number.ensures c.in_ok-parse_number.was in
    record {
      so_far = subst (λ (x : List ℕ). AreSpelled (texts (drop (c.loop-word.word-index + 1) c.args.words.now)) (texts c.args.words.now) x) (sym c.push.ensures.items) more;
      count = omega (arith, c.push.ensures.len, c.loop-word.invariant.count);
      few = omega (arith, c.push.ensures.len, c.loop-word.invariant.count, c.loop-word-test.true);
    }

pub returns : goal.returns
returns c = λ m.
    let none = no_texts_left c.args.words.now c.loop-word.word-index (omega (arith, c.loop-word-test.false)) in
    all_spelled _ (texts c.args.words.now) c.loop-word.moves m c.loop-word.invariant.so_far none (omega (arith, c.loop-word.invariant.few, c.if-words-gt-ENDS_MOST.false))
