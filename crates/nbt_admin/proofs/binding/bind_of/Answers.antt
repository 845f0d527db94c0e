use Rattle.std.proofs.Common.{◌≡◌, [], sym, ap, ◌∙◌, length, refl, inl, inr, Ok, Err}
use Rattle.std.proofs.lemmas.Bool.{eqb-true, eq-eqb, true≢false}
use Rattle.std.proofs.lemmas.List.{nil_from_length}
use Rattle.std.proofs.lemmas.Result.{err_from_is_err_and}
use Rattle.nbt_admin.specs.Serving.{ReadsNext, every, these}
use Rattle.nbt_admin.proofs.Each.{from_none}
use Rattle.nbt_admin.proofs.binding.bind_of.Goals as goal

pub returns-in_err-addresses : goal.returns-in_err-addresses
returns-in_err-addresses c =
    let p = err_from_is_err_and c.from_residual.result c.from_residual.ensures.1 in
    rw (p.1, p.2) (inr (inl (from_none ReadsNext c.new.result.items c.args.texts.now c.args.texts.now (Err c.in_err-addresses.field-0.0) c.new.ensures.items refl c.in_err-addresses.ensures.failure)))

pub returns-then-is_empty : goal.returns-then-is_empty
returns-then-is_empty c =
    let addresses = c.in_ok-addresses.addresses.items in
    let found = c.as_slice-found.result.now in (
      addresses,
      (
        from_none ReadsNext c.new.result.items c.args.texts.now c.args.texts.now (Ok addresses) c.new.ensures.items refl c.in_ok-addresses.ensures.read,
        every (sym c.as_slice-found.ensures.value ∙ nil_from_length found (eqb-true (length found) 0 (sym c.is_empty.ensures ∙ c.if-is_empty.true))),
      ),
    )

pub returns : goal.returns
returns c =
    let addresses = c.in_ok-addresses.addresses.items in
    let found = c.as_slice-found.result.now in (
      addresses,
      (
        from_none ReadsNext c.new.result.items c.args.texts.now c.args.texts.now (Ok addresses) c.new.ensures.items refl c.in_ok-addresses.ensures.read,
        these c.in_ok-addresses.addresses refl (λ none. true≢false (sym (c.is_empty.ensures ∙ eq-eqb (length found) 0 (ap length (c.as_slice-found.ensures.value ∙ none))) ∙ c.if-is_empty.false)),
      ),
    )
