use Rattle.std.proofs.Common.{◌≡◌, length, ap, arith, rules}
use Rattle.nbt_packet.specs.Message.{found}
use Rattle.nbt_confirm.proofs.Readings.{at_none, no_response, none_spelled, one_spelled, spelled_by}
use Rattle.nbt_confirm.proofs.response.response_in.Goals as goal
use Rattle.nbt_confirm.proofs.response.response_in.Goals.{in_default-via-in-Found+else-entries, in_default-via-in_default}

pub returns-in_err-id-clause-none : goal.returns-in_err-id-clause-none
returns-in_err-id-clause-none c =
    at_none c.from_residual.result (λ r is. none_spelled c.read.result c.args.octets.now c.read.ensures c.in_err-id.was (found r.id r.name is.ttl r.entries is.cut) is.spelled)

pub returns-in-Found-clause-response : goal.returns-in-Found-clause-response
returns-in-Found-clause-response c =
    let spelled = rw c.in-Found.is at (spelled_by c.read.result c.args.octets.now c.in_ok-id.field-0 c.read.ensures c.in_ok-id.was) in
    record { addr_is = search rules; port_is = omega arith; few_octets = omega arith; ttl = c.in-Found.ttl; cut = c.in-Found.cut; spelled = spelled; few_entries = omega arith }

pub returns-in_default-clause-none : goal.returns-in_default-clause-none
returns-in_default-clause-none c = λ r is.
    let same = one_spelled c.read.result c.args.octets.now c.in_ok-id.field-0 c.read.ensures c.in_ok-id.was (found r.id r.name is.ttl r.entries is.cut) is.spelled in
    elim c.in_default.branch [
      | in_default-via-in-Found+else-entries w ↦
          let met = rw w.in-Found.is at same in
          let entries : w.in-Found.entries.now ≡ r.entries = cc in
          omega (arith, ap length entries, is.few_entries, w.if-entries.false)
      | in_default-via-in_default w ↦ no_response c.in_ok-id.field-0 w.in_default.not-Found r.id r.name is.ttl r.entries is.cut same
    ]
