use Rattle.std.proofs.Common.{arith}
use Rattle.nbt_session.specs.Stream.{called_bad, calling_bad, not_filled}
use Rattle.nbt_session.proofs.Spelling.{fault_within, names_fill}
use Rattle.nbt_session.proofs.body.request_in.Goals as goal

pub fault_of-requires : goal.fault_of-requires
fault_of-requires c = omega (arith, c.requires, fault_within c.args.body.now 0 c.in-Err.fault ((c.read_plain.ensures.fault c.in-Err.fault).0 c.in-Err.is))

pub returns-in-Err-clause-fault : goal.returns-in-Err-clause-fault
returns-in-Err-clause-fault c = rw c.fault_of.ensures (called_bad c.in-Err.fault ((c.read_plain.ensures.fault c.in-Err.fault).0 c.in-Err.is))

pub fault_of-requires-in-Err-read_plain : goal.fault_of-requires-in-Err-read_plain
fault_of-requires-in-Err-read_plain c = omega (arith, c.requires, fault_within c.args.body.now _ _ ((c.read_plain-2.ensures.fault _).0 c.in-Err-read_plain.is))

pub returns-in-Err-read_plain-clause-fault : goal.returns-in-Err-read_plain-clause-fault
returns-in-Err-read_plain-clause-fault c =
    rw c.fault_of-in-Err-read_plain.ensures
    (calling_bad c.in-Ok.read.0 c.in-Ok.read.1 c.in-Err-read_plain.fault ((c.read_plain.ensures.name _ _).0 c.in-Ok.is) ((c.read_plain-2.ensures.fault _).0 c.in-Err-read_plain.is))

pub returns-then-end-body-clause-fault : goal.returns-then-end-body-clause-fault
returns-then-end-body-clause-fault c =
    rw c.bad.ensures
    (not_filled c.in-Ok.read.0 c.in-Ok-read_plain.read.0 c.in-Ok.read.1 c.in-Ok-read_plain.read.1 ((c.read_plain.ensures.name _ _).0 c.in-Ok.is) ((c.read_plain-2.ensures.name _ _).0 c.in-Ok-read_plain.is) c.if-end-body.true)

pub returns-clause-body : goal.returns-clause-body
returns-clause-body c =
    names_fill c.args.body.now c.in-Ok.read.0 c.in-Ok-read_plain.read.0 c.in-Ok.read.1 c.in-Ok-read_plain.read.1 ((c.read_plain.ensures.name _ _).0 c.in-Ok.is) ((c.read_plain-2.ensures.name _ _).0 c.in-Ok-read_plain.is) c.if-end-body.false
