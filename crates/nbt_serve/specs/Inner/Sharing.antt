-- What becomes of a datagram by its client's share, before it is handled (private functions alone).
use Rattle.std.specs.Prelude.{◌≡◌, ◌⊎◌, ⊤, ℕ, ◌<◌, true, false, List}
use Rattle.nbt_store.specs.declared.room.Room.{Room}
use Rattle.nbt_serve.specs.Sharing.{ShareValue, AsksForChange, IsLetIn, had, one_barred, Counted, Shares}
use Rattle.nbt_serve.specs.declared.share.Admission.{Admission}
use Rattle.nbt_serve.specs.declared.share.Admission.TheVariants as to

-- It is free, it is counted as if it made a change, or it is barred.
pub data Admits (now client : ℕ) (octets : List ℕ) (old : ShareValue) : Admission → ShareValue → Type 0 where
  is_free : (old.limit ≡ 0) ⊎ (¬ AsksForChange octets) → Admits now client octets old to.Free old
  is_counted : (new : ShareValue) → AsksForChange octets → had old now client < old.limit → Counted now client true old new → Admits now client octets old to.Counted new
  is_barred : (new : ShareValue) → Shares now client octets old true false new → Admits now client octets old to.Barred new

-- the same by the room that the store has
pub data AdmitsBy (room : Room) (now client : ℕ) (octets : List ℕ) (old : ShareValue) : Admission → ShareValue → Type 0 where
  is_let_in : (admission : Admission) (new : ShareValue) → IsLetIn room octets → Admits now client octets old admission new → AdmitsBy room now client octets old admission new
  is_kept_out : ¬ IsLetIn room octets → AdmitsBy room now client octets old to.Barred (one_barred old)

-- the datagram is handled
abbrev pub IsHandled : Admission → Type 0
IsHandled to.Barred = ⊥
IsHandled admission = ⊤
