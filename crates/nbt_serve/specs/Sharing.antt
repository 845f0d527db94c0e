-- How many changes of each client a server makes in a second, and what it bars where its store has little room (our profile).
use Rattle.std.specs.Prelude.{◌≡◌, ◌≢◌, ⊤, ℕ, ◌+◌, ◌-◌, ◌/◌, ◌^◌, ◌<◌, ◌≤◌, nat_eq, min, Bool, true, false, ◌&&◌, if◌then◌else◌, List, [], length, unwrap_or}
use Rattle.std.specs.Map.{lookup}
use Rattle.nbt_name.specs.Words.{word_at}
use Rattle.nbt_packet.specs.Message.{IsRequest, opcode_of}
use Rattle.nbt_store.specs.declared.room.Room.{Room}
use Rattle.nbt_store.specs.declared.room.Room.TheVariants as there_is

-- How many changes a client may have in a second, or 0 for any number; a second of the server's clock; how many each client had in it; and
-- how many requests were barred so far. A client is a 32-bit address.
pub record ShareValue : Type 0 where
  pub limit : ℕ
  pub second : ℕ
  pub made : List (ℕ × ℕ)
  pub barred : ℕ

-- no change was made yet
abbrev pub share_of : (limit : ℕ) → ShareValue
share_of limit = record { limit = limit; second = 0; made = []; barred = 0 }

-- the second of a moment, which is in milliseconds
abbrev pub second_of : (now : ℕ) → ℕ
second_of now = now / 1000

-- how many of these are a client's; none where it isn't among them
abbrev pub count_in : List (ℕ × ℕ) → (client : ℕ) → ℕ
count_in made client = unwrap_or (lookup (nat_eq client) made) 0

-- how many a client had in the second of a moment
abbrev pub had : ShareValue → (now client : ℕ) → ℕ
had share now client = if nat_eq share.second (second_of now) then count_in share.made client else 0

-- A request that is no query (RFC 1002 section 4.2.1.1): a registration, an overwrite, a refresh or a release, whatever else it says.
pub record AsksForChange (octets : List ℕ) : Type 0 where
  pub whole : 4 ≤ length octets
  pub request : IsRequest (word_at octets 2)
  pub no_query : opcode_of (word_at octets 2) ≢ 0

-- one request more was barred, as far as 64 bits count
abbrev pub one_barred : ShareValue → ShareValue
one_barred share = record share { barred = min (share.barred + 1) (2 ^ 64 - 1) }

-- A client's request was handled at a moment, and made a change, or none.
pub record Counted (now client : ℕ) (changed : Bool) (old new : ShareValue) : Type 0 where
  pub limit : new.limit ≡ old.limit
  pub second : new.second ≡ second_of now
  pub made : (any : ℕ) → count_in new.made any ≡ had old now any + (if nat_eq client any && changed then 1 else 0)
  pub barred : new.barred ≡ old.barred

-- A datagram came at a moment from a client: it is barred, or handled, and it changed a lease or none. It is barred exactly where it asks
-- for a change and its client has had its share in that second, or memory was refused for the client's first.
pub data Shares (now client : ℕ) (octets : List ℕ) (old : ShareValue) : (barred changed : Bool) → ShareValue → Type 0 where
  has_no_limit : (changed : Bool) → old.limit ≡ 0 → Shares now client octets old false changed old
  asks_for_none : (changed : Bool) → ¬ AsksForChange octets → Shares now client octets old false changed old
  is_within : (changed : Bool) (new : ShareValue) → AsksForChange octets → had old now client < old.limit → Counted now client changed old new → Shares now client octets old false changed new
  is_beyond : 0 < old.limit → AsksForChange octets → old.limit ≤ had old now client → Shares now client octets old true false (one_barred old)
  has_no_memory : (mid : ShareValue) → 0 < old.limit → AsksForChange octets → had old now client ≡ 0 → Counted now client false old mid → Shares now client octets old true false (one_barred mid)

-- What a store with so much room lets in: where there is room for times alone what asks for no change, and where there is none nothing.
abbrev pub IsLetIn : Room → (octets : List ℕ) → Type 0
IsLetIn there_is.Ample octets = ⊤
IsLetIn there_is.TooLong octets = ¬ AsksForChange octets
IsLetIn there_is.Scarce octets = ¬ AsksForChange octets
IsLetIn there_is.Spent octets = ⊥

-- The same by the room that the store has: what isn't let in is barred, and no share is touched.
pub data SharesBy (room : Room) (now client : ℕ) (octets : List ℕ) (old : ShareValue) : (barred changed : Bool) → ShareValue → Type 0 where
  has_room : (barred changed : Bool) (new : ShareValue) → IsLetIn room octets → Shares now client octets old barred changed new → SharesBy room now client octets old barred changed new
  has_no_room : ¬ IsLetIn room octets → SharesBy room now client octets old true false (one_barred old)
