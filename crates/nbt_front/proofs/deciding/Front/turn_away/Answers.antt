use Rattle.std.proofs.Common.{◌≡◌, true, false, sym}
use Rattle.nbt_server.specs.Serving.{active_error, refusal, refused_error}
use Rattle.nbt_front.specs.Deciding.{desk_at, refuses_past, turns_away}
use Rattle.nbt_front.specs.Standing.{is_taken}
use Rattle.nbt_front.proofs.Rulings.{denied, claim_passes}
use Rattle.nbt_front.proofs.deciding.Front.turn_away.Goals as goal

pub returns-then-not-allows-clause-decided : goal.returns-then-not-allows-clause-decided
returns-then-not-allows-clause-decided c = λ m claims. (
  refusal refused_error c.args.claim,
  rw c.respond-name.ensures.name (turns_away m c.args.claim claims c.requires.free (denied c.allows.result c.allows.ensures.1 c.if-not-allows.true)),
  c.respond-name.ensures.written,
)

pub returns-then-not-is_taken-clause-passed : goal.returns-then-not-is_taken-clause-passed
returns-then-not-is_taken-clause-passed c =
    let standing = c.args.standing.now in
    let quiet : is_taken standing.past.now standing.at c.args.claim.name c.args.claim.kind c.args.ip ≡ false = sym (rw (c.to_name-name.ensures, c.if-not-is_taken.true) at c.is_taken.ensures) in
    λ m claims. claim_passes (desk_at c.args.self.now standing) standing.at c.args.ip m c.args.claim c.requires.free (c.allows.ensures.0 c.if-not-allows.false) quiet claims

pub returns-clause-decided : goal.returns-clause-decided
returns-clause-decided c =
    let standing = c.args.standing.now in
    let taken : is_taken standing.past.now standing.at c.args.claim.name c.args.claim.kind c.args.ip ≡ true = sym (rw (c.to_name-name.ensures, c.if-not-is_taken.false) at c.is_taken.ensures) in
    λ m claims. (
      refusal active_error c.args.claim,
      rw c.respond-name-2.ensures.name (refuses_past m c.args.claim claims c.requires.free (c.allows.ensures.0 c.if-not-allows.false) taken),
      c.respond-name-2.ensures.written,
    )
