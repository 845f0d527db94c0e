use Rattle.std.proofs.Common.{arith}
use Rattle.std.proofs.lemmas.Grind.{common_steps}
use Rattle.nbt_text.specs.Texts.{texts}
use Rattle.nbt_front.specs.Files.{not_three}
use Rattle.nbt_front.proofs.line.line_of.Goals as goal

pub returns-in_default-clause-err : goal.returns-in_default-clause-err
returns-in_default-clause-err c = not_three (texts c.args.words.now) (λ three. grind (arith, common_steps))
