use Rattle.nbt_session.specs.declared.listener.Slot.TheVariants.{Fresh}
use Rattle.nbt_session.specs.Listener.{stands_already, is_lost}
use Rattle.nbt_session.proofs.listener.on_fresh.Goals as goal

pub returns-in-Connected : goal.returns-in-Connected
returns-in-Connected c = λ holds listed tells are. rw c.in-Connected.is stands_already

pub returns-in-Lost : goal.returns-in-Lost
returns-in-Lost c = λ holds listed tells are. rw c.in-Lost.is (is_lost Fresh)
