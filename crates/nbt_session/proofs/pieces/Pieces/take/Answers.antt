use Rattle.std.proofs.Common.{◌∙◌, sym, ap, arith}
use Rattle.nbt_session.specs.Inner.Pieces.{state_of}
use Rattle.nbt_session.proofs.Comings.{ends_at, waits_at, goes_on_at, stays_at}
use Rattle.nbt_session.proofs.pieces.Pieces.take.Goals as goal

pub returns-then-missing-eq0-clause-takes : goal.returns-then-missing-eq0-clause-takes
returns-then-missing-eq0-clause-takes c =
    let is_at = rw c.in-Inside.is at c.self.invariant in
    ends_at c.args.piece.now _ c.args.self.now c.in-Inside.missing (sym c.self.view_is ∙ ap (state_of c.self.inside.coming) c.in-Inside.is) (omega arith) is_at.1

pub returns-then-count-eq0-clause-takes : goal.returns-then-count-eq0-clause-takes
returns-then-count-eq0-clause-takes c =
    waits_at c.args.piece.now c.args.self.now c.in-Inside.missing c.min-count.result (sym c.self.view_is ∙ ap (state_of c.self.inside.coming) c.in-Inside.is) (omega arith) c.min-count.ensures (omega arith)

pub returns-else-count-eq0-clause-takes : goal.returns-else-count-eq0-clause-takes
returns-else-count-eq0-clause-takes c =
    goes_on_at c.args.piece.now c.args.self.now c.in-Inside.missing c.min-count.result (sym c.self.view_is ∙ ap (state_of c.self.inside.coming) c.in-Inside.is) c.min-count.ensures (omega arith) (λ k. omega (arith, c.type_inv.piece k))

pub returns-in-Faulty-clause-takes : goal.returns-in-Faulty-clause-takes
returns-in-Faulty-clause-takes c = stays_at c.args.piece.now c.args.self.now c.in-Faulty.fault (sym c.self.view_is ∙ ap (state_of c.self.inside.coming) c.in-Faulty.is)
