-- The times, limits and numbers that texts of arguments are read as (our profile).
use Rattle.std.specs.Prelude.{◌≡◌, ◌≢◌, ◌≤◌, ◌↔◌, ℕ, List, Option, unwrap_or, Result, codes}
use Rattle.nbt_lease.specs.Config.{ConfigValue, config_of, IsLife, IsLongest, rows_most, milliseconds}
use Rattle.nbt_client.specs.Asking.{patience_of, tries_most}
use Rattle.nbt_text.specs.Number.{SpellsWithin}
use Rattle.nbt_nbns.specs.Limits.{judged}
use Rattle.nbt_nbns.specs.declared.limits.Judged.TheVariants.{Short}
use Rattle.nbt_text.specs.Times.{SpellsTime}
use Rattle.nbt_admin.specs.Failures.{Reports, IsUsage}
use Rattle.nbt_admin.specs.Reading.{Reads, Needs, Then, Gives}
use Rattle.nbt_admin.specs.declared.failure.Complaint.TheVariants as complaint
use Rattle.nbt_admin.specs.declared.failure.Failure.{Failure}
use Rattle.nbt_admin.specs.declared.failure.Failure.TheVariants.{Complaint}
use Rattle.nbt_admin.specs.declared.failure.ArgumentFault.{ArgumentFault}
use Rattle.nbt_admin.specs.declared.failure.ArgumentFault.TheVariants as w

-- for how many milliseconds a command runs
abbrev pub ReadsTime : List ℕ → Result ℕ Failure → Type 0
ReadsTime text = Reads (SpellsTime text) (Reports text w.Time)

-- a number from 1 on, and no greater than this
abbrev pub ReadsUpTo : (most : ℕ) → ArgumentFault → List ℕ → Result ℕ Failure → Type 0
ReadsUpTo most fault text = Reads (SpellsWithin 1 most text) (Reports text fault)

-- ---- how long to wait for a reply

-- the text is a time to wait: from a millisecond to 5 s, which one try lasts
abbrev pub SpellsWait : List ℕ → ℕ → Type 0
SpellsWait text time = SpellsTime text time × ((1 ≤ time) × (time ≤ 5000))

-- `1`, `2` or `3`
pub record AreTries (text : List ℕ) (count : ℕ) : Type 0 where
  pub once : (count ≡ 1) ↔ (text ≡ codes "1")
  pub twice : (count ≡ 2) ↔ (text ≡ codes "2")
  pub some : 1 ≤ count
  pub few : count ≤ tries_most

-- the number of requests, and the wait after the last one
pub record SpellsPatience (tries wait : List ℕ) (patience : ℕ) : Type 0 where
  pub count : ℕ
  pub last : ℕ
  pub tries_are : AreTries tries count
  pub spells : SpellsWait wait last
  pub patience_is : patience ≡ patience_of count last

-- a wait beyond its limits is wrong usage
abbrev pub ReadsPatience : (tries wait : List ℕ) → Result ℕ Failure → Type 0
ReadsPatience tries wait = Reads (SpellsPatience tries wait) IsUsage

-- ---- the limits of a network

-- the greatest life of a datagram, in milliseconds
abbrev pub SpellsLife : List ℕ → ℕ → Type 0
SpellsLife text life = SpellsTime text life × IsLife life

-- the longest lease, in seconds: the time has no part of one
abbrev pub SpellsLongest : List ℕ → (seconds : ℕ) → Type 0
SpellsLongest text seconds = SpellsTime text (milliseconds seconds) × IsLongest seconds

-- both, for the greatest number of leases
abbrev pub ReadsConfig : (life longest : List ℕ) → Result ConfigValue Failure → Type 0
ReadsConfig life longest = Then (Reads (SpellsLife life) (Reports life w.Life)) (λ milliseconds.
    Then (Reads (SpellsLongest longest) (Reports longest w.Longest)) (λ seconds.
    Gives (config_of milliseconds seconds rows_most)))

-- a network can run with these limits
abbrev pub NeedsFit : ConfigValue → Result Unit Failure → Type 0
NeedsFit config = Needs (judged config ≢ Short) (λ failure. failure ≡ Complaint (complaint.Short config))

-- ---- how many live leases a server keeps

-- the same limits for so many, and for 4,096 without a text
abbrev pub with_rows : ConfigValue → (rows : Option ℕ) → ConfigValue
with_rows config rows = config_of config.life config.longest (unwrap_or rows rows_most)

-- ---- how many live leases a client of a server may have

-- without a text
abbrev pub client_rows : ℕ
client_rows = 64

-- ---- how many changes a client of a server may make in a second

-- a number, 0 for any
abbrev pub ReadsChanges : List ℕ → Result ℕ Failure → Type 0
ReadsChanges text = Reads (SpellsWithin 0 1000000 text) (Reports text w.ClientChanges)

-- without a text
abbrev pub client_changes : ℕ
client_changes = 20

-- ---- how many lines of a kind a log has in a second at most

-- a number, 0 for any
abbrev pub ReadsLogRate : List ℕ → Result ℕ Failure → Type 0
ReadsLogRate text = Reads (SpellsWithin 0 255 text) (Reports text w.LogRate)

-- without a text
abbrev pub log_rate : ℕ
log_rate = 10
