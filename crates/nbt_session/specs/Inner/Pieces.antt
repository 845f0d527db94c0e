-- Where a stream in parts stands, as the code has it.
use Rattle.std.specs.Prelude.{◌≡◌, []}
use Rattle.nbt_session.specs.declared.coming.Coming.{Coming}
use Rattle.nbt_session.specs.declared.pieces.Place.{Place}
use Rattle.nbt_session.specs.declared.pieces.Place.TheVariants as places
use Rattle.nbt_session.specs.Inner.Coming.{octets_of, IsComing}
use Rattle.nbt_session.specs.Parts.{PiecesState, between, inside, faulty}

abbrev pub state_of : Coming → Place → PiecesState
state_of c places.Between = between (octets_of c)
state_of c (places.Inside missing) = inside missing
state_of c (places.Faulty fault) = faulty fault

-- In a message nothing is held.
abbrev pub IsAt : Coming → Place → Type 0
IsAt c places.Between = IsComing c
IsAt c (places.Inside missing) = IsComing c × (octets_of c ≡ [])
IsAt c (places.Faulty fault) = IsComing c
