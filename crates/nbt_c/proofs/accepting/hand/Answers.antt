use Rattle.nbt_c.proofs.Common.{refl, subst, AcceptsFor, above, given}
use Rattle.nbt_dgram.specs.Accepting.{nothing, accept_of, Accepts}
use Rattle.nbt_c.specs.Datagrams as is
use Rattle.nbt_c.proofs.accepting.hand.Goals as goal

pub returns-in_default : goal.returns-in_default
returns-in_default c = (
  nothing,
  given (λ n joiner sent. AcceptsFor c.args.joiner.now c.args.now c.args.node.now c.args.own c.args.octets.now n nothing sent joiner) refl refl c.clear.ensures (is.AcceptsFor.has_no_moment (above c.in_default.ensures.found)),
  c.report.ensures,
  c.put_data.ensures,
)

pub returns : goal.returns
returns c = (
  accept_of c.accept-outcome.result,
  is.AcceptsFor.accepts (accept_of c.accept-outcome.result) c.accept-outcome.new.out.items c.accept-outcome.new.joiner (c.in-Some.ensures.found.0 refl)
      (subst (λ m. Accepts c.args.joiner.now m c.args.node.now c.args.own c.args.octets.now (accept_of c.accept-outcome.result) c.accept-outcome.new.out.items c.accept-outcome.new.joiner) c.in-Some.ensures.value c.accept-outcome.ensures),
  c.report-2.ensures,
  c.put_data-2.ensures,
)
