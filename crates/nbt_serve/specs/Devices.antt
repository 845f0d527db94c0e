-- The calls of a port and of a store, in the order in which they are made (our profile).
use Rattle.std.specs.Prelude.{◌≡◌}
use Rattle.nbt_port.specs.PortCalls.{PortCall}
use Rattle.nbt_store.specs.Calls.{StoreCall}

pub data DeviceCall : Type 0 where
  on_port : PortCall → DeviceCall
  on_store : StoreCall → DeviceCall

pub record Devices (P S : Type 0) : Type 0 where
  pub port : P
  pub store : S

-- A call of the one leaves the other as it is.
abbrev pub DeviceDoes : {P S : Type 0} → (P → PortCall → P → Type 0) → (S → StoreCall → S → Type 0) → Devices P S → DeviceCall → Devices P S → Type 0
DeviceDoes does keeps old (on_port call) new = does old.port call new.port × (new.store ≡ old.store)
DeviceDoes does keeps old (on_store call) new = keeps old.store call new.store × (new.port ≡ old.port)
