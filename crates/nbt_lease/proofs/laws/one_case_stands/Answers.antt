use Rattle.nbt_lease.proofs.Outcomes.{grant_found, one_grant, release_found, one_release}
use Rattle.nbt_lease.proofs.laws.one_case_stands.Goals as goal

pub returns : goal.returns
returns c = record { grant_found = grant_found; one_grant = one_grant; release_found = release_found; one_release = one_release }
