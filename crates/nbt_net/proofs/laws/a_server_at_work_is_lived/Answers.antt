use Rattle.std.specs.Prelude.{IsTrue}
use Rattle.std.proofs.Common.{refl}
use Rattle.nbt_front.specs.FrontPort.{FrontDoes}
use Rattle.nbt_net.specs.Working.{PutsFront}
use Rattle.nbt_net.proofs.BareWorking.{bare_work_is_lived}
use Rattle.nbt_net.proofs.Working.{work_is_lived}
use Rattle.nbt_net.proofs.laws.a_server_at_work_is_lived.Goals as goal

pub returns-clause-kept : goal.returns-clause-kept
returns-clause-kept g c = λ own old new any_pair none worked. work_is_lived (FrontDoes g.P.Port.does) PutsFront g.S.Store.does g.C.Clock.tells g.D.Clock.tells (λ header. IsTrue (own header)) any_pair old.server.table.config old new refl none worked

pub returns-clause-bare : goal.returns-clause-bare
returns-clause-bare g c = λ config boot first new begun work. bare_work_is_lived (FrontDoes g.P.Port.does) PutsFront g.C.Clock.tells config boot first new begun work
