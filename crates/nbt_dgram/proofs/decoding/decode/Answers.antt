use Rattle.std.proofs.Common.{ℕ, List, Result, Ok, Err, arith}
use Rattle.std.specs.Prelude.{IfOk, IfErr}
use Rattle.std.proofs.lemmas.Result.{IfOk-weaker}
use Rattle.nbt_name.proofs.Readers.{value_iff, fault_iff}
use Rattle.nbt_dgram.specs.declared.fault.DgramFault.{DgramFault}
use Rattle.nbt_dgram.specs.declared.dgram.Dgram.{Dgram}
use Rattle.nbt_dgram.specs.Dgram.{DgramIs, FaultIs, dgram_of, decoded}
use Rattle.nbt_dgram.proofs.Fitting.{read_fits}
use Rattle.nbt_dgram.proofs.OneDatagram.{reads_dgram}
use Rattle.nbt_dgram.proofs.decoding.decode.Goals as goal

-- what is found stands there, as a value
value_found : (octets : List ℕ) (r : Result (Dgram × ℕ) DgramFault) → IfOk r (λ read. DgramIs octets (dgram_of read.0) read.1) → IfOk (decoded r) (λ x. DgramIs octets x.0 x.1)
value_found octets (Ok read) is = is
value_found octets (Err fault) is = tt

fault_found : (octets : List ℕ) (r : Result (Dgram × ℕ) DgramFault) → IfErr r (FaultIs octets) → IfErr (decoded r) (FaultIs octets)
fault_found octets (Ok read) bad = tt
fault_found octets (Err fault) bad = bad

pub returns-clause-dgram : goal.returns-clause-dgram
returns-clause-dgram c = λ d n.
    let octets = c.args.octets.now in
    value_iff (reads_dgram octets) (decoded c.dgram_at.result) (value_found octets c.dgram_at.result c.dgram_at.ensures.dgram) (fault_found octets c.dgram_at.result c.dgram_at.ensures.fault) (d, n)

pub returns-clause-fault : goal.returns-clause-fault
returns-clause-fault c =
    let octets = c.args.octets.now in
    fault_iff (reads_dgram octets) (decoded c.dgram_at.result) (value_found octets c.dgram_at.result c.dgram_at.ensures.dgram) (fault_found octets c.dgram_at.result c.dgram_at.ensures.fault)

pub returns-clause-fits : goal.returns-clause-fits
returns-clause-fits c = IfOk-weaker c.dgram_at.result _ _ (λ read. read_fits c.args.octets.now (λ k. omega (arith, c.type_inv.octets k)) (dgram_of read.0) read.1) c.dgram_at.ensures.dgram
