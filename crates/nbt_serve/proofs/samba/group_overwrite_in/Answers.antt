use Rattle.nbt_packet.specs.Message.{overwrite}
use Rattle.nbt_serve.proofs.SambaReading.{reads_none, finds_overwrite, finds_unique, finds_no_overwrite}
use Rattle.nbt_serve.proofs.samba.group_overwrite_in.Goals as goal

pub returns-in_err-claim : goal.returns-in_err-claim
returns-in_err-claim c = λ r. (rw c.from_residual.ensures (λ e. absurd cc), λ s. absurd (reads_none c.read.result c.args.octets.now c.read.ensures c.in_err-claim.was (overwrite r) s.0))

pub returns-in-Group : goal.returns-in-Group
returns-in-Group c = rw c.of.ensures (finds_overwrite c.read.result c.args.octets.now c.in_ok-claim.field-0 c.in-Overwrite.claim c.read.ensures c.in_ok-claim.was c.in-Overwrite.is c.in-Group.is)

pub returns-in-Unique : goal.returns-in-Unique
returns-in-Unique c = finds_unique c.read.result c.args.octets.now c.in_ok-claim.field-0 c.in-Overwrite.claim c.read.ensures c.in_ok-claim.was c.in-Overwrite.is c.in-Unique.is

pub returns-in_default : goal.returns-in_default
returns-in_default c = finds_no_overwrite c.read.result c.args.octets.now c.in_ok-claim.field-0 c.read.ensures c.in_ok-claim.was c.in_default.not-Overwrite
