use Rattle.std.proofs.Common.{arith}
use Rattle.std.proofs.lemmas.Grind.{common_steps}
use Rattle.nbt_text.specs.Texts.{texts}
use Rattle.nbt_front.specs.NetworkFiles.{not_one}
use Rattle.nbt_front.proofs.network_file.network_of.Goals as goal

pub returns-in_default-clause-err : goal.returns-in_default-clause-err
returns-in_default-clause-err c = not_one (texts c.args.words.now) (λ one. grind (arith, common_steps))
