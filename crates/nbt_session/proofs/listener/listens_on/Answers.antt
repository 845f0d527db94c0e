use Rattle.std.proofs.Common.{◌∙◌, sym, get_or, Some, arith}
use Rattle.std.proofs.lemmas.Bool.{false≢true}
use Rattle.nbt_session.proofs.Places.{read_at, as_many, same_at, named, is_named}
use Rattle.nbt_session.proofs.listener.listens_on.Goals as goal

pub returns-then-is_for-clause-called_entry : goal.returns-then-is_for-clause-called_entry
returns-then-is_for-clause-called_entry c = λ listed are.
    let one = named c.place-item.result c.args.called.now (sym c.is_for.ensures ∙ c.if-is_for.true) in (
      c.loop-place.place-index,
      one.0,
      omega (arith, c.loop-place-test.true, as_many c.args.entries.now listed are),
      same_at c.args.entries.now listed are c.loop-place.place-index c.place-item.result one.0 c.place-item.is one.1,
      one.2,
    )

pub returns-clause-none : goal.returns-clause-none
returns-clause-none c = λ listed are k d less same.
    false≢true (sym (c.loop-place.invariant k (Some d) (omega (arith, less, as_many c.args.entries.now listed are, c.loop-place-test.false)))
    ∙ is_named _ (get_or listed k d) c.args.called.now (read_at c.args.entries.now listed are k d) same)
