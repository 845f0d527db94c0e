use Rattle.std.proofs.Common.{subst}
use Rattle.nbt_server.proofs.Common.{leases_at, IsSound, ServerValue}
use Rattle.nbt_server.proofs.server.Server.last.Goals as goal

pub returns-clause-sound : goal.returns-clause-sound
returns-clause-sound c =
    subst (λ (s : ServerValue). IsSound s.table.config s.last (leases_at s.last s.table.rows)) c.self.view_is
    (c.leases_stay_sound.ensures.later c.self.inside.table.config _ _ _ c.self.invariant.1 c.last.ensures.sound)
