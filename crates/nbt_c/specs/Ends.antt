-- Endpoints, kinds and limits as C passes them, and what starts with such limits.
use Rattle.std.specs.Prelude.{ℕ, ◌<◌, ◌≤◌, nat_eq, if◌then◌else◌, Option, Some, None}
use Rattle.nbt_name.specs.declared.addr.Addr.{Addr}
use Rattle.nbt_name.specs.declared.addr.Kind.{Kind}
use Rattle.nbt_name.specs.declared.addr.Kind.TheVariants.{Unique, Group}
use Rattle.nbt_lease.specs.declared.fault.ConfigFault.TheVariants.{Life, Longest, Rows}
use Rattle.nbt_lease.specs.Config.{ConfigValue, IsLife, IsLongest, IsRows, config_of, last_moment}
use Rattle.nbt_lease.specs.Numbers.{config_fault_number}
use Rattle.nbt_c.specs.declared.ends.CAddr.{CAddr}
use Rattle.nbt_c.specs.declared.ends.CConfig.{CConfig}
use Rattle.nbt_c.specs.Results.{no_moment}

abbrev pub addr_of : CAddr → Addr
addr_of it = record { ip = it.ip; port = it.port }

abbrev pub addr_for : Addr → CAddr
addr_for it = record { ip = it.ip; port = it.port }

-- 1 as one machine's, 2 as a group's
abbrev pub kind_number : Kind → ℕ
kind_number Unique = 1
kind_number Group = 2

-- 0 and 1 are kinds
abbrev pub kind_of : ℕ → Option Kind
kind_of number = if nat_eq number 0 then Some Unique else (if nat_eq number 1 then Some Group else None)

-- What a start answers: 0 where the value that then stands in the memory begins so; else the first number that is wrong, and none does.
pub data StartsWith {X : Type 0} (Begins : ConfigValue → X → Type 0) (config : CConfig) (now : ℕ) : ℕ → Option X → Type 0 where
  starts : (value : X) → IsLife config.life → IsLongest config.longest → IsRows config.rows → now ≤ last_moment
      → Begins (config_of config.life config.longest config.rows) value → StartsWith Begins config now 0 (Some value)
  bad_life : ¬ IsLife config.life → StartsWith Begins config now (config_fault_number Life) None
  bad_longest : IsLife config.life → ¬ IsLongest config.longest → StartsWith Begins config now (config_fault_number Longest) None
  bad_rows : IsLife config.life → IsLongest config.longest → ¬ IsRows config.rows → StartsWith Begins config now (config_fault_number Rows) None
  has_no_moment : IsLife config.life → IsLongest config.longest → IsRows config.rows → last_moment < now → StartsWith Begins config now no_moment None
