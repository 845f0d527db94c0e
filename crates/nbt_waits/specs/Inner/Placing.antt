-- Where a datagram is that was set aside.
use Rattle.std.specs.Prelude.{ℕ, List}
use Rattle.nbt_confirm.specs.declared.request.Came.{Came}
use Rattle.nbt_waits.specs.declared.aside.Place.{Place}
use Rattle.nbt_waits.specs.declared.aside.Place.TheVariants as at
use Rattle.nbt_waits.specs.Looking.{Kept, nothing, aside, back}

abbrev pub kept_of : Place → Came → (octets : List ℕ) → Kept
kept_of at.Nowhere came octets = nothing
kept_of at.Aside came octets = aside came octets
kept_of at.Back came octets = back came octets
