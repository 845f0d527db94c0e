use Rattle.std.proofs.Common.{◌≡◌, [], arith, refl, ◌∙◌}
use Rattle.nbt_name.proofs.Common.{err_from_is_err_and, ForNone, nil_from_length, letters_pass, first_label_bad, letters_bad}
use Rattle.nbt_name.proofs.Passing.{Step-to, first_passed, letters_passed}
use Rattle.nbt_name.proofs.reader.Reader.pass_letters.Goals as goal

pub returns-then-count-ne-LETTERS : goal.returns-then-count-ne-LETTERS
returns-then-count-ne-LETTERS c = λ form scope size.
    rw c.fault.ensures (first_label_bad c.args.count (first_passed _ _ c.requires.first) c.requires.finds c.if-count-ne-LETTERS.true c.requires.label)

pub returns-in_err-expect_letters : goal.returns-in_err-expect_letters
returns-in_err-expect_letters c = λ form.
    let is : c.args.count ≡ 0x20 = omega arith in
    let p = err_from_is_err_and c.from_residual.result c.from_residual.ensures.1 in
    rw (p.1, p.2) (λ scope size. letters_bad c.in_err-expect_letters.field-0.0 (first_passed _ _ c.requires.first) (rw is at c.requires.finds) c.in_err-expect_letters.ensures.fault)

pub returns : goal.returns
returns c = λ form scope size.
    let is : c.args.count ≡ 0x20 = omega arith in
    let all = c.in_ok-expect_letters.ensures.letters in
    let fresh : ForNone c.args.self.now.first (scope ≡ []) = λ e. nil_from_length scope (size ∙ c.args.self.now.fresh e) in (
      scope,
      size,
      Step-to _ _ _ _ (letters_pass (first_passed _ _ c.requires.first) (rw is at c.requires.finds) (omega (arith, all.0)) all.1) refl
          (letters_passed c.args.self.now.first scope c.spelled.result c.args.octets.now c.args.self.now.place c.requires.first fresh c.spelled.ensures.octets)
          refl,
    )
