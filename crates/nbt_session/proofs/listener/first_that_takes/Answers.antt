use Rattle.std.proofs.Common.{get_or, Some, arith}
use Rattle.nbt_session.proofs.Places.{read_at, as_many, listed_at}
use Rattle.nbt_session.proofs.listener.first_that_takes.Goals as goal

pub returns-then-takes-clause-found : goal.returns-then-takes-clause-found
returns-then-takes-clause-found c = λ listed are. record {
  place = c.loop-place.place-index;
  stands = listed_at c.args.entries.now listed are c.loop-place.place-index c.place-item.result c.in-Some.entry c.loop-place-test.true c.place-item.is c.in-Some.is;
  takes = c.takes.ensures.0 c.if-takes.true;
  before = λ k d low less. c.loop-place.invariant k (Some d) (get_or listed k d) less (read_at c.args.entries.now listed are k d);
}

pub returns-clause-none : goal.returns-clause-none
returns-clause-none c = λ listed are k d less.
    c.loop-place.invariant k (Some d) (get_or listed k d) (omega (arith, less, as_many c.args.entries.now listed are, c.loop-place-test.false)) (read_at c.args.entries.now listed are k d)
