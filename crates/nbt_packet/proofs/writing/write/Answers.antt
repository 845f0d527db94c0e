use Rattle.std.proofs.Common.{rules, ◌≡◌, ℕ, ◌≤◌, ◌<◌, List, [], length, refl, subst, sym, ◌∙◌, arith, false}
use Rattle.nbt_packet.proofs.Common.{Result, Ok, Err, is_ok, IsErr, append-nil, message_of, text, Spells}
use Rattle.nbt_packet.proofs.writing.write.Goals as goal

is_error : {A E : Type 0} (r : Result A E) → is_ok r ≡ false → IsErr r
is_error (Ok a) e = absurd cc
is_error (Err e) is = refl

pub prove-unreachable-requires : goal.prove-unreachable-requires
prove-unreachable-requires c =
    let short : length (text (message_of c.args.message.now)) ≤ 576 = c.few_rows_are_written.ensures _ c.encode-written.ensures.numbers c.requires.row_count in
    let long : 576 < length (text (message_of c.args.message.now)) = c.encode-written.ensures.full.0 (is_error _ (sym c.is_ok.ensures.value ∙ c.if-prove.true)) in
    omega arith

pub returns : goal.returns
returns c =
    let spelled = c.written_form_is_read.ensures.spells (message_of c.args.message.now) [] c.encode-written.ensures.numbers c.requires.fits in
    let written : c.encode-written.new.out.items ≡ text (message_of c.args.message.now) = search rules in
    (written, subst (λ (xs : List ℕ). Spells xs (message_of c.args.message.now)) (append-nil (text (message_of c.args.message.now)) ∙ sym written) spelled)
