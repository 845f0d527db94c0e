use Rattle.std.proofs.Common.{◌<◌, drop, length, arith, rules}
use Rattle.std.specs.Prelude.{slice_index}
use Rattle.nbt_log.specs.Hosts.{IsSpace}
use Rattle.nbt_text.proofs.Filling.{cut_found}
use Rattle.nbt_log.proofs.hosts.before_space.Goals.{then-octets-test+else-not-is_space, else-octets-test}
use Rattle.nbt_log.proofs.hosts.before_space.Goals as goal

pub returns : goal.returns
returns c =
    let stop : c.octets.count < length c.args.octets.now → IsSpace (slice_index c.args.octets.now c.octets.count) = elim c.octets-test.branch [
      | then-octets-test+else-not-is_space w ↦ λ lt. w.is_space.ensures.0 (search rules)
      | else-octets-test w ↦ λ lt. absurd (omega (arith, lt, w.octets-test.false))
    ] in
    (drop c.octets.count c.args.octets.now, cut_found IsSpace c.args.octets.now c.octets.count c.octets.invariant.within c.octets.invariant.none stop)
