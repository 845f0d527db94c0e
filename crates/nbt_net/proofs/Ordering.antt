-- Calls of several devices in one order: each device's own among them, and the whole put together of these.
use Rattle.std.proofs.Common.{◌≡◌, ℕ, List, [], ◌∷◌, ◌++◌, map, Some, None, refl, sym, ap, subst, ◌∙◌, append-nil}
use Rattle.nbt_port.specs.PortCalls.{PortCall, Chain}
use Rattle.nbt_store.specs.Calls.{StoreCall}
use Rattle.nbt_serve.specs.Devices.{DeviceCall, on_port, on_store, Devices, DeviceDoes}
use Rattle.nbt_serve.specs.Runs.{stored_in}
use Rattle.nbt_net.specs.Devices.{Call, of_port, reads, of_store, Machine, StoreDoes, MachineDoes, devices_in}

-- ---- a program with a store, and without one

abbrev pub kept_machine : {P C S : Type 0} → P → C → S → Machine P C S
kept_machine port clock store = record { port = port; clock = clock; store = Some store }

abbrev pub bare_machine : {P C S : Type 0} → P → C → Machine P C S
bare_machine port clock = record { port = port; clock = clock; store = None }

-- ---- each device's own

abbrev pub ports_in : List Call → List PortCall
ports_in [] = []
ports_in (of_port call ∷ calls) = call ∷ ports_in calls
ports_in (reads now ∷ calls) = ports_in calls
ports_in (of_store call ∷ calls) = ports_in calls

abbrev pub read_in : List Call → List ℕ
read_in [] = []
read_in (of_port call ∷ calls) = read_in calls
read_in (reads now ∷ calls) = now ∷ read_in calls
read_in (of_store call ∷ calls) = read_in calls

abbrev pub kept_in : List Call → List StoreCall
kept_in [] = []
kept_in (of_port call ∷ calls) = kept_in calls
kept_in (reads now ∷ calls) = kept_in calls
kept_in (of_store call ∷ calls) = call ∷ kept_in calls

module _ {P C S : Type 0} (does : P → PortCall → P → Type 0) (tells : C → ℕ → C → Type 0) (keeps : S → StoreCall → S → Type 0) where
  -- What each device did in its own order, all did in this one.
  pub put_in_order : (calls : List Call) (old new : Machine P C S) → Chain does old.port (ports_in calls) new.port → Chain tells old.clock (read_in calls) new.clock → Chain (StoreDoes keeps) old.store (kept_in calls) new.store
      → Chain (MachineDoes does tells keeps) old calls new
  put_in_order [] old new port clock store = λ j. record { port = port j; clock = clock j; store = store j }
  put_in_order (of_port call ∷ calls) old new port clock store = (record old { port = port.0 }, (port.1, refl, refl), put_in_order calls (record old { port = port.0 }) new port.2 clock store)
  put_in_order (reads now ∷ calls) old new port clock store = (record old { clock = clock.0 }, (clock.1, refl, refl), put_in_order calls (record old { clock = clock.0 }) new port clock.2 store)
  put_in_order (of_store call ∷ calls) old new port clock store = (record old { store = store.0 }, (store.1, refl, refl), put_in_order calls (record old { store = store.0 }) new port clock store.2)

-- a store that is there
pub some_kept : {S : Type 0} (keeps : S → StoreCall → S → Type 0) (calls : List StoreCall) (old new : S) → Chain keeps old calls new → Chain (StoreDoes keeps) (Some old) calls (Some new)
some_kept keeps [] old new chain = ap Some chain
some_kept keeps (call ∷ calls) old new chain = (Some chain.0, chain.1, some_kept keeps calls chain.0 new chain.2)

-- calls up to some place, and those behind it
pub chain_split : {A X : Type 0} (step : A → X → A → Type 0) (xs ys : List X) (old new : A) → Chain step old (xs ++ ys) new → (mid : A) × Chain step old xs mid × Chain step mid ys new
chain_split step [] ys old new chain = (old, refl, chain)
chain_split step (x ∷ xs) ys old new chain = let rest = chain_split step xs ys chain.0 new chain.2 in (rest.0, (chain.0, chain.1, rest.1), rest.2)

-- ---- of a port and a store

abbrev pub sends_in : List DeviceCall → List PortCall
sends_in [] = []
sends_in (on_port call ∷ calls) = call ∷ sends_in calls
sends_in (on_store call ∷ calls) = sends_in calls

abbrev pub call_of : DeviceCall → Call
call_of (on_port call) = of_port call
call_of (on_store call) = of_store call

abbrev pub calls_of : List DeviceCall → List Call
calls_of calls = map call_of calls

module _ {P S : Type 0} (does : P → PortCall → P → Type 0) (keeps : S → StoreCall → S → Type 0) where
  pub port_alone : (calls : List DeviceCall) (old new : Devices P S) → Chain (DeviceDoes does keeps) old calls new → Chain does old.port (sends_in calls) new.port
  port_alone [] old new chain = ap (λ (d : Devices P S). d.port) chain
  port_alone (on_port call ∷ calls) old new chain = (chain.0.port, chain.1.0, port_alone calls chain.0 new chain.2)
  port_alone (on_store call ∷ calls) old new chain = subst (λ (p : P). Chain does p (sends_in calls) new.port) chain.1.1 (port_alone calls chain.0 new chain.2)

  pub store_alone : (calls : List DeviceCall) (old new : Devices P S) → Chain (DeviceDoes does keeps) old calls new → Chain keeps old.store (stored_in calls) new.store
  store_alone [] old new chain = ap (λ (d : Devices P S). d.store) chain
  store_alone (on_port call ∷ calls) old new chain = subst (λ (s : S). Chain keeps s (stored_in calls) new.store) chain.1.1 (store_alone calls chain.0 new chain.2)
  store_alone (on_store call ∷ calls) old new chain = (chain.0.store, chain.1.0, store_alone calls chain.0 new chain.2)

-- ---- parts put one after the other

pub both : {A : Type 0} {xs ys zs ws : List A} → xs ≡ zs → ys ≡ ws → xs ++ ys ≡ zs ++ ws
both p q = λ j. p j ++ q j

pub ports-append : (xs ys : List Call) → ports_in (xs ++ ys) ≡ ports_in xs ++ ports_in ys
ports-append [] ys = refl
ports-append (of_port call ∷ xs) ys = ap (λ (rest : List PortCall). call ∷ rest) (ports-append xs ys)
ports-append (reads now ∷ xs) ys = ports-append xs ys
ports-append (of_store call ∷ xs) ys = ports-append xs ys

pub read-append : (xs ys : List Call) → read_in (xs ++ ys) ≡ read_in xs ++ read_in ys
read-append [] ys = refl
read-append (of_port call ∷ xs) ys = read-append xs ys
read-append (reads now ∷ xs) ys = ap (λ (rest : List ℕ). now ∷ rest) (read-append xs ys)
read-append (of_store call ∷ xs) ys = read-append xs ys

pub kept-append : (xs ys : List Call) → kept_in (xs ++ ys) ≡ kept_in xs ++ kept_in ys
kept-append [] ys = refl
kept-append (of_port call ∷ xs) ys = kept-append xs ys
kept-append (reads now ∷ xs) ys = kept-append xs ys
kept-append (of_store call ∷ xs) ys = ap (λ (rest : List StoreCall). call ∷ rest) (kept-append xs ys)

pub devices-append : (xs ys : List Call) → devices_in (xs ++ ys) ≡ devices_in xs ++ devices_in ys
devices-append [] ys = refl
devices-append (of_port call ∷ xs) ys = ap (λ (rest : List DeviceCall). on_port call ∷ rest) (devices-append xs ys)
devices-append (reads now ∷ xs) ys = devices-append xs ys
devices-append (of_store call ∷ xs) ys = ap (λ (rest : List DeviceCall). on_store call ∷ rest) (devices-append xs ys)

pub sends-append : (xs ys : List DeviceCall) → sends_in (xs ++ ys) ≡ sends_in xs ++ sends_in ys
sends-append [] ys = refl
sends-append (on_port call ∷ xs) ys = ap (λ (rest : List PortCall). call ∷ rest) (sends-append xs ys)
sends-append (on_store call ∷ xs) ys = sends-append xs ys

pub stored-append : (xs ys : List DeviceCall) → stored_in (xs ++ ys) ≡ stored_in xs ++ stored_in ys
stored-append [] ys = refl
stored-append (on_port call ∷ xs) ys = stored-append xs ys
stored-append (on_store call ∷ xs) ys = ap (λ (rest : List StoreCall). call ∷ rest) (stored-append xs ys)

-- ---- readings alone, and calls of a port and a store alone

pub ports_read : (times : List ℕ) (calls : List Call) → ports_in (map reads times ++ calls) ≡ ports_in calls
ports_read [] calls = refl
ports_read (time ∷ times) calls = ports_read times calls

pub read_read : (times : List ℕ) (calls : List Call) → read_in (map reads times ++ calls) ≡ times ++ read_in calls
read_read [] calls = refl
read_read (time ∷ times) calls = ap (λ (rest : List ℕ). time ∷ rest) (read_read times calls)

pub kept_read : (times : List ℕ) (calls : List Call) → kept_in (map reads times ++ calls) ≡ kept_in calls
kept_read [] calls = refl
kept_read (time ∷ times) calls = kept_read times calls

pub devices_read : (times : List ℕ) (calls : List Call) → devices_in (map reads times ++ calls) ≡ devices_in calls
devices_read [] calls = refl
devices_read (time ∷ times) calls = devices_read times calls

pub ports_both : (calls : List DeviceCall) → ports_in (calls_of calls) ≡ sends_in calls
ports_both [] = refl
ports_both (on_port call ∷ calls) = ap (λ (rest : List PortCall). call ∷ rest) (ports_both calls)
ports_both (on_store call ∷ calls) = ports_both calls

pub read_both : (calls : List DeviceCall) → read_in (calls_of calls) ≡ []
read_both [] = refl
read_both (on_port call ∷ calls) = read_both calls
read_both (on_store call ∷ calls) = read_both calls

pub kept_both : (calls : List DeviceCall) → kept_in (calls_of calls) ≡ stored_in calls
kept_both [] = refl
kept_both (on_port call ∷ calls) = kept_both calls
kept_both (on_store call ∷ calls) = ap (λ (rest : List StoreCall). call ∷ rest) (kept_both calls)

pub devices_both : (calls : List DeviceCall) → devices_in (calls_of calls) ≡ calls
devices_both [] = refl
devices_both (on_port call ∷ calls) = ap (λ (rest : List DeviceCall). on_port call ∷ rest) (devices_both calls)
devices_both (on_store call ∷ calls) = ap (λ (rest : List DeviceCall). on_store call ∷ rest) (devices_both calls)

-- ---- a receive, readings, calls, and then readings and calls again

abbrev pub in_order : (hearing : PortCall) (told : List ℕ) (calls : List DeviceCall) (later : List ℕ) (back : List DeviceCall) → List Call
in_order hearing told calls later back = of_port hearing ∷ (map reads told ++ (calls_of calls ++ (map reads later ++ calls_of back)))

module _ (hearing : PortCall) (told : List ℕ) (calls : List DeviceCall) (later : List ℕ) (back : List DeviceCall) where
  pub ports_ordered : ports_in (in_order hearing told calls later back) ≡ sends_in ((on_port hearing ∷ calls) ++ back)
  ports_ordered = ap (λ (rest : List PortCall). hearing ∷ rest)
      (ports_read told _ ∙ ports-append (calls_of calls) _ ∙ both (ports_both calls) (ports_read later (calls_of back) ∙ ports_both back) ∙ sym (sends-append calls back))

  pub read_ordered : read_in (in_order hearing told calls later back) ≡ told ++ later
  read_ordered = read_read told _ ∙ ap (λ (rest : List ℕ). told ++ rest)
      (read-append (calls_of calls) _ ∙ both (read_both calls) (read_read later (calls_of back) ∙ (ap (λ (rest : List ℕ). later ++ rest) (read_both back) ∙ append-nil later)))

  pub kept_ordered : kept_in (in_order hearing told calls later back) ≡ stored_in ((on_port hearing ∷ calls) ++ back)
  kept_ordered = kept_read told _ ∙ kept-append (calls_of calls) _ ∙ both (kept_both calls) (kept_read later (calls_of back) ∙ kept_both back) ∙ sym (stored-append calls back)

  pub devices_ordered : devices_in (in_order hearing told calls later back) ≡ (on_port hearing ∷ calls) ++ back
  devices_ordered = ap (λ (rest : List DeviceCall). on_port hearing ∷ rest)
      (devices_read told _ ∙ devices-append (calls_of calls) _ ∙ both (devices_both calls) (devices_read later (calls_of back) ∙ devices_both back))
