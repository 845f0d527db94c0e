use Rattle.nbt_c.proofs.Common.{◌<◌, ◌≤◌, Some, None, refl, subst, Polls, PollsNode, above, at_least, given}
use Rattle.nbt_c.specs.Nodes as is
use Rattle.nbt_c.proofs.hearing.poll.Goals as goal

pub returns-in_default : goal.returns-in_default
returns-in_default c = (None, given (λ n node octets. PollsNode c.args.node.now c.args.now n node None octets) refl refl c.clear.ensures (is.PollsNode.has_no_moment (above c.in_default.ensures.found)), refl)

pub returns-in-Ok-Some : goal.returns-in-Ok-Some
returns-in-Ok-Some c =
    let at = c.in-Some.ensures.value in (
      Some c.in-Ok-Some.end,
      is.PollsNode.polls c.poll.new.self (Some c.in-Ok-Some.end) c.poll.new.out.items (c.in-Some.ensures.found.0 refl)
          (subst (λ m. c.args.node.now.last ≤ m) at (at_least c.in-Ok-Some.ensures.refused)) (subst (λ m. Polls c.args.node.now m c.poll.new.self (Some c.in-Ok-Some.end) c.poll.new.out.items) at
          (subst (λ to. Polls c.args.node.now c.in-Some.now c.poll.new.self to c.poll.new.out.items) c.in-Ok-Some.field-0-is c.in-Ok-Some.ensures.ok)),
      c.of.ensures,
    )

pub returns-in-Ok-None : goal.returns-in-Ok-None
returns-in-Ok-None c =
    let at = c.in-Some.ensures.value in (
      None,
      is.PollsNode.polls c.poll.new.self None c.poll.new.out.items (c.in-Some.ensures.found.0 refl)
          (subst (λ m. c.args.node.now.last ≤ m) at (at_least c.in-Ok-None.ensures.refused)) (subst (λ m. Polls c.args.node.now m c.poll.new.self None c.poll.new.out.items) at
          (subst (λ to. Polls c.args.node.now c.in-Some.now c.poll.new.self to c.poll.new.out.items) c.in-Ok-None.field-0-is c.in-Ok-None.ensures.ok)),
      refl,
    )

pub returns-in-Err : goal.returns-in-Err
returns-in-Err c = (
  None,
  given (λ n node octets. PollsNode c.args.node.now c.args.now n node None octets) c.number.ensures c.in-Err.ensures.err.0 c.in-Err.ensures.err.1
      (is.PollsNode.is_late (c.in-Some.ensures.found.0 refl) (subst (λ m. m < c.args.node.now.last) c.in-Some.ensures.value (c.in-Err.ensures.refused.0 refl))),
  refl,
)
