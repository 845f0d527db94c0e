use Rattle.std.proofs.Common.{◌∙◌, ℕ, List, ap, subst}
use Rattle.nbt_text.specs.Texts.{texts}
use Rattle.nbt_port.specs.OwnAddresses.{Says}
use Rattle.nbt_port.proofs.machine_addresses.line_of.Goals as goal

pub returns : goal.returns
returns c = subst (λ (ws : List (List ℕ)). Says ws c.said_by.result) (ap texts c.as_slice.ensures.value ∙ c.in_ok-words.ensures) c.said_by.ensures
