use Rattle.nbt_serve.proofs.Resumed.{resumes_kept}
use Rattle.nbt_serve.proofs.laws.what_is_kept_resumes.Goals as goal

pub returns : goal.returns
returns c = resumes_kept
