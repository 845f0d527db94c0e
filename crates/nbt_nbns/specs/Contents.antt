-- What a kept file has, and its first line (our profile).
use Rattle.std.specs.Prelude.{ℕ, List}
use Rattle.nbt_log.specs.Leases.{list_head}
use Rattle.nbt_log.specs.Hosts.{hosts_head}
use Rattle.nbt_log.specs.Stats.{stats_head}
use Rattle.nbt_nbns.specs.declared.content.Content.{Content}
use Rattle.nbt_nbns.specs.declared.content.Content.TheVariants.{Leases, Hosts, Stats}

abbrev pub head_of : Content → List ℕ
head_of Leases = list_head
head_of Hosts = hosts_head
head_of Stats = stats_head
