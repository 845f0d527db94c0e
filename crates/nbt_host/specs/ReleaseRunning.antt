-- Names are given back on this machine, and what is printed of it (our profile).
use Rattle.std.specs.Prelude.{◌≡◌, ℕ, Bool, List, Option}
use Rattle.std.specs.List.{list_all}
use Rattle.std.specs.Io.KnownBytes.{Appends}
use Rattle.nbt_name.specs.declared.addr.Addr.{Addr}
use Rattle.nbt_port.specs.PortCalls.{PortCall}
use Rattle.nbt_port.specs.Clocks.{SteadyTells, SteadyBegins, SystemShows}
use Rattle.nbt_port.specs.Udp.{UdpValue, UdpDoes}
use Rattle.nbt_client.specs.declared.turning.Want.{Want}
use Rattle.nbt_host.specs.declared.release.Release.{Release}
use Rattle.nbt_host.specs.Releases.{fresh_all}
use Rattle.nbt_host.specs.ReleaseTurns.{Releases, turns_most}
use Rattle.nbt_host.specs.Outcomes.{IsOutcomeLine, is_confirmed}
use Rattle.nbt_host.specs.TurnLines.{TellsAll}

-- The names are given back, with ids from the first on, and a line is printed for each. It tells whether all were confirmed.
pub record ReleasesOver {P C : Type 0} (does : P → PortCall → P → Type 0) (tells : C → ℕ → C → Type 0) (bind server : Addr) (first_id : ℕ) (wants : List Want) (all : Bool)
    (old_port : P) (old_clock : C) (old_text : Option (List ℕ)) (port : P) (clock : C) (text : Option (List ℕ)) : Type 0 where
  pub ended : List Release
  pub lines : List ℕ
  pub releases : Releases does tells server bind.ip turns_most (record { clock = old_clock; here = record { port = old_port; releases = fresh_all first_id wants } }) (record { clock = clock; here = record { port = port; releases = ended } })
  pub lines_are : TellsAll IsOutcomeLine ended lines
  pub printed : Appends old_text text lines
  pub all_is : all ≡ list_all is_confirmed ended

-- over a UDP port of this machine that was bound to this address, and its steady clock, with some first id
abbrev pub ReleasesHere : (bind server : Addr) → List Want → (all : Bool) → (old_text text : Option (List ℕ)) → Type 0
ReleasesHere bind server wants all old_text text = (first_id : ℕ) × (first : ℕ) × (port : UdpValue) × (clock : ℕ) × SteadyBegins SystemShows first
    × ReleasesOver UdpDoes (SteadyTells SystemShows) bind server first_id wants all (record { addr = bind; failures = 0 }) first old_text port clock text
