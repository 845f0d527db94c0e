-- What a scan is to do (our profile).
use Rattle.std.specs.Prelude.{◌≡◌, ◌≢◌, ℕ, ◌<◌, ◌≤◌, List, length, slice_index, Option, Some, None}
use Rattle.nbt_scan.specs.declared.plan.Plan.{Plan}

-- it asks so many addresses at most
abbrev pub addresses_most : ℕ
addresses_most = 65536

-- each is below those behind it
abbrev pub AreAscending : List ℕ → Type 0
AreAscending ips = (i j : ℕ) → i < j → j < length ips → slice_index ips i < slice_index ips j

-- the place of an address in the list, or none where the list doesn't have it
abbrev pub IsPlaceOf : List ℕ → (ip : ℕ) → Option ℕ → Type 0
IsPlaceOf ips ip (Some place) = (place < length ips) × (slice_index ips place ≡ ip)
IsPlaceOf ips ip None = (k : ℕ) → k < length ips → slice_index ips k ≢ ip

-- a scan can do it
pub record IsPlan (plan : Plan) : Type 0 where
  pub few : length plan.ips.items ≤ addresses_most
  pub ascending : AreAscending plan.ips.items
  pub some_rate : 0 < plan.rate
  pub some_tries : 0 < plan.tries
