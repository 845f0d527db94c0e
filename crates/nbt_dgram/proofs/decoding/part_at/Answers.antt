use Rattle.std.proofs.Common.{ℕ, List}
use Rattle.std.proofs.lemmas.Result.{err_from_is_err_and}
use Rattle.nbt_name.specs.Wire.{NameValue}
use Rattle.nbt_name.specs.Reading.{PlainNameAt}
use Rattle.nbt_dgram.specs.declared.fault.DgramFault.{DgramFault}
use Rattle.nbt_dgram.specs.Inner.Decoding.{NameFaultAt, name_bad}
use Rattle.nbt_dgram.specs.Dgram.{NamesFault, source_bad, destination_bad}
use Rattle.nbt_dgram.proofs.decoding.part_at.Goals as goal

of_source : (octets : List ℕ) (fault : DgramFault) → NameFaultAt octets 14 fault → NamesFault octets fault
of_source octets _ (name_bad fault at) = source_bad fault at

of_destination : (octets : List ℕ) (name : NameValue) (named : ℕ) (fault : DgramFault) → PlainNameAt octets 14 name named → NameFaultAt octets named fault → NamesFault octets fault
of_destination octets name named _ source (name_bad fault at) = destination_bad name named fault source at

pub returns-in_err-source-clause-fault : goal.returns-in_err-source-clause-fault
returns-in_err-source-clause-fault c =
    let p = err_from_is_err_and c.from_residual.result c.from_residual.ensures.1 in
    rw (p.1, p.2) (c.if-not-first.false, of_source _ _ c.in_err-source.ensures.fault)

pub returns-in_err-destination-clause-fault : goal.returns-in_err-destination-clause-fault
returns-in_err-destination-clause-fault c =
    let p = err_from_is_err_and c.from_residual-in_err-destination.result c.from_residual-in_err-destination.ensures.1 in
    rw (p.1, p.2) (c.if-not-first.false, of_destination _ c.in_ok-source.source c.in_ok-source.named _ c.in_ok-source.ensures.name c.in_err-destination.ensures.fault)
