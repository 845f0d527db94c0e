use Rattle.nbt_lease.proofs.Sound.{sound_later, sound_granted, sound_released}
use Rattle.nbt_lease.proofs.laws.leases_stay_sound.Goals as goal

pub returns : goal.returns
returns c = record { later = sound_later; granted = sound_granted; released = sound_released }
