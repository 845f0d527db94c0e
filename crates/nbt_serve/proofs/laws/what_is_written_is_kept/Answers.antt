use Rattle.nbt_serve.proofs.Renewed.{renewed_kept}
use Rattle.nbt_serve.proofs.laws.what_is_written_is_kept.Goals as goal

pub returns : goal.returns
returns c = renewed_kept
