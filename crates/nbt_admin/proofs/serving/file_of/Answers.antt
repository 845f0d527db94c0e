use Rattle.std.proofs.Common.{refl}
use Rattle.nbt_admin.proofs.serving.file_of.Goals as goal

pub returns-in_ok-path_of-in-Some : goal.returns-in_ok-path_of-in-Some
returns-in_ok-path_of-in-Some c = rw c.in-Some.is (c.in_ok-path_of-in-Some.field-0, (c.in_ok-path_of-in-Some.ensures, refl))
