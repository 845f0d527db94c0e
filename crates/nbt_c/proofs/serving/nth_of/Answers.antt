use Rattle.nbt_c.proofs.Common.{sym, ◌∙◌, refl}
use Rattle.std.proofs.lemmas.Iterator.Adapters.{option_map_id}
use Rattle.std.proofs.lemmas.Iterator.Consumers.{nth_from_yields_List, YieldsList-from_first}
use Rattle.nbt_c.proofs.serving.nth_of.Goals as goal

pub returns : goal.returns
returns c = sym (option_map_id c.nth.result) ∙ nth_from_yields_List c.nth.result c.nth.new.self c.args.which c.nth.ensures.ran (YieldsList-from_first (λ x. x) (λ s. s) c.args.members refl)
