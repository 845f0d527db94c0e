-- A turn without the reading of the clock after it, as the code has it.
use Rattle.std.specs.Prelude.{◌≡◌, List}
use Rattle.nbt_port.specs.PortCalls.{PortCall, Chain}
use Rattle.nbt_host.specs.declared.watching.Look.{Look}
use Rattle.nbt_host.specs.declared.arguments.HostArguments.{HostArguments}
use Rattle.nbt_host.specs.Hosting.{HostValue, Terms}
use Rattle.nbt_host.specs.Sleeping.{last_of}
use Rattle.nbt_host.specs.Host.{HostingValue, terms_of}
use Rattle.nbt_host.specs.Servers.{noted_of, after_turn}

abbrev pub Through : {P K : Type 0} → (turns : Terms → HostValue → List PortCall → List Look → HostValue → Type 0) → (P → PortCall → P → Type 0) → (K → Look → K → Type 0) → HostArguments → P → HostingValue K → P → HostingValue K → Type 0
Through turns does looks a old_port old port new = (acts : List PortCall) × (seen : List Look) × turns (terms_of a old.asked) old.host acts seen new.host × (new.last ≡ last_of old.last seen)
    × Chain does old_port acts port × Chain looks old.watch seen new.watch × (new.asked ≡ after_turn (noted_of old.asked.server acts) new.last.at old.asked)
