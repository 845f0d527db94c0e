-- Under which longest lease a network can be run (our profile).
use Rattle.std.specs.Prelude.{ℕ, ◌*◌, nat_lt, ◌||◌, if◌then◌else◌, List, ◌++◌, codes}
use Rattle.std.specs.Fmt.{decimal}
use Rattle.nbt_lease.specs.Config.{ConfigValue, milliseconds}
use Rattle.nbt_nbns.specs.declared.limits.Judged.{Judged}
use Rattle.nbt_nbns.specs.declared.limits.Judged.TheVariants.{Fits, Short, Long}

-- the longest lease has so many seconds at least
abbrev pub holds_least : ℕ
holds_least = 30

-- and so many lives of a datagram
abbrev pub lives_least : ℕ
lives_least = 20

-- so many seconds a server is silent after its start without a warning
abbrev pub longest_quiet : ℕ
longest_quiet = 3600

-- too short below 30 s and below 20 lives of a datagram; long above an hour
abbrev pub judged : ConfigValue → Judged
judged config =
    if nat_lt config.longest holds_least || nat_lt (milliseconds config.longest) (lives_least * config.life) then Short
    else (if nat_lt longest_quiet config.longest then Long else Fits)

abbrev pub refusal_text : ConfigValue → List ℕ
refusal_text config = codes "longest lease " ++ decimal config.longest ++ codes " s, life of a datagram " ++ decimal config.life
    ++ codes " ms: it has to be 30 s and 20 lives at least, else a hold would lapse before it can be refreshed"

abbrev pub warning_text : ConfigValue → List ℕ
warning_text config = codes "longest lease " ++ decimal config.longest ++ codes " s: after each start the server is silent for as long"
