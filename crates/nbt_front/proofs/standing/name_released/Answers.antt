use Rattle.nbt_packet.specs.Message.{release}
use Rattle.nbt_front.proofs.Rulings.{at_none, no_release, none_spelled, one_spelled, spelled_by}
use Rattle.nbt_front.proofs.standing.name_released.Goals as goal
use Rattle.nbt_front.proofs.standing.name_released.Goals.{in_default-via-in-Release+else-addr-ip, in_default-via-in_default}

pub returns-in_err-addr-clause-none : goal.returns-in_err-addr-clause-none
returns-in_err-addr-clause-none c =
    at_none c.from_residual.result (λ name own. none_spelled c.read.result c.args.octets.now c.read.ensures c.in_err-addr.was (release own.0 name own.1 c.args.ip) own.2)

pub returns-in-Release-clause-found : goal.returns-in-Release-clause-found
returns-in-Release-clause-found c =
    let spelled = rw c.in-Release.is at (spelled_by c.read.result c.args.octets.now c.in_ok-addr.field-0 c.read.ensures c.in_ok-addr.was) in
    (c.in-Release.id, c.in-Release.kind, rw (c.to_name.ensures, ← c.if-addr-ip.true) spelled)

pub returns-in_default-clause-none : goal.returns-in_default-clause-none
returns-in_default-clause-none c = λ name own.
    let is = one_spelled c.read.result c.args.octets.now c.in_ok-addr.field-0 c.read.ensures c.in_ok-addr.was (release own.0 name own.1 c.args.ip) own.2 in
    elim c.in_default.branch [
      | in_default-via-in-Release+else-addr-ip w ↦ let same = rw w.in-Release.is at is in w.if-addr-ip.false (cc)
      | in_default-via-in_default w ↦ no_release c.in_ok-addr.field-0 w.in_default.not-Release own.0 name own.1 c.args.ip is
    ]
