-- Calls of a port that may have changed before them: what a port did so is what it did from where it was before it changed.
use Rattle.std.proofs.Common.{List, [], ◌∷◌, refl, sym, ap, subst}
use Rattle.nbt_port.specs.PortCalls.{PortCall, Chain}
use Rattle.nbt_store.specs.Calls.{StoreCall}
use Rattle.nbt_serve.specs.Devices.{DeviceCall, on_port, on_store, Devices, DeviceDoes}
use Rattle.nbt_net.specs.Working.{HasChanged, stays, DoesChanged}

module _ {P : Type 0} (does : P → PortCall → P → Type 0) (changes : P → P → Type 0) where
  -- a port before it changed last, and what it did up to there
  pub record Moved (q : P) (calls : List PortCall) (new : P) : Type 0 where
    pub port : P
    pub changed : HasChanged changes port new
    pub did : Chain (DoesChanged does changes) q calls port

  pub moved : (calls : List PortCall) (old new q : P) → HasChanged changes q old → Chain does old calls new → Moved q calls new
  moved [] old new q changed chain = record { port = q; changed = subst (HasChanged changes q) (sym chain) changed; did = refl }
  moved (call ∷ calls) old new q changed chain =
      let rest = moved calls chain.0 new chain.0 stays chain.2 in
      record { port = rest.port; changed = rest.changed; did = (chain.0, (old, changed, chain.1), rest.did) }

  module _ {S : Type 0} (keeps : S → StoreCall → S → Type 0) where
    -- the same of a port and a store
    pub record BothMoved (q : P) (store : S) (calls : List DeviceCall) (new : Devices P S) : Type 0 where
      pub port : P
      pub changed : HasChanged changes port new.port
      pub did : Chain (DeviceDoes (DoesChanged does changes) keeps) (record { port = q; store = store }) calls (record { port = port; store = new.store })

    pub both_moved : (calls : List DeviceCall) (old new : Devices P S) (q : P) → HasChanged changes q old.port → Chain (DeviceDoes does keeps) old calls new → BothMoved q old.store calls new
    both_moved [] old new q changed chain = record {
      port = q;
      changed = subst (HasChanged changes q) (sym (ap (λ (d : Devices P S). d.port) chain)) changed;
      did = ap (λ (d : Devices P S). record { port = q; store = d.store }) chain;
    }
    both_moved (on_port call ∷ calls) old new q changed chain =
        let rest = both_moved calls chain.0 new chain.0.port stays chain.2 in
        record { port = rest.port; changed = rest.changed; did = (record { port = chain.0.port; store = chain.0.store }, ((old.port, changed, chain.1.0), chain.1.1), rest.did) }
    both_moved (on_store call ∷ calls) old new q changed chain =
        let rest = both_moved calls chain.0 new q (subst (HasChanged changes q) (sym chain.1.1) changed) chain.2 in
        record { port = rest.port; changed = rest.changed; did = (record { port = q; store = chain.0.store }, (chain.1.0, refl), rest.did) }
