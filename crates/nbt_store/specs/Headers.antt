-- The header of a server (our profile).
use Rattle.std.specs.Prelude.{ℕ, List}
use Rattle.nbt_lease.specs.Config.{ConfigValue}
use Rattle.nbt_store.specs.declared.header.Header.{Header}

abbrev pub header_of : ConfigValue → (boot : List ℕ) → (ahead start last day : ℕ) → Header
header_of config boot ahead start last day = record { life = config.life; longest = config.longest; rows = config.rows; boot = boot; ahead = ahead; start = start; last = last; day = day }
