-- A server without a state at work with its devices is a part of its life after another.
use Rattle.std.proofs.Common.{ℕ, [], ◌∷◌, ◌++◌, Option, refl, ap}
use Rattle.std.specs.List.{flat_map}
use Rattle.nbt_lease.specs.Config.{ConfigValue}
use Rattle.nbt_log.specs.declared.entry.Entry.{Entry}
use Rattle.nbt_port.specs.PortCalls.{PortCall}
use Rattle.nbt_server.specs.Calls.{limited}
use Rattle.nbt_serve.specs.Serving.{acts_in, acts_of, WatchesTurn, Breaks}
use Rattle.nbt_net.specs.Devices.{NoStore, reads, going_on, acts_at, ends}
use Rattle.nbt_net.specs.Servers.{never_up, up, act_at, ServerLives, starts, has_limit}
use Rattle.nbt_net.specs.BareWorking.{Bare, BareWorks, takes_turn, port_fails, reads_clock, port_changes, IsBareAtWork, begins, goes_on, BareStarts, BareWorkIsLived}
use Rattle.nbt_net.specs.Working.{HasChanged, stays, changed_again, DoesChanged}
use Rattle.nbt_net.proofs.Changing.{moved}
use Rattle.nbt_net.proofs.Ordering.{bare_machine}
use Rattle.nbt_net.proofs.Parts.{Always, Part, no_part, parts, read_alone, whole}
use Rattle.nbt_net.proofs.UnkeptParts as bare
use Rattle.nbt_net.proofs.UnkeptParts.{BarePart}

module _ {P C : Type 0} (does : P → PortCall → P → Type 0) (changes : P → P → Type 0) (tells : C → ℕ → C → Type 0) (config : ConfigValue) where
  -- A part of its life, from a port before it changed to one before it changed.
  record Stage (q : P) (old new : Bare P C) : Type 0 where
    pub port : P
    pub changed : HasChanged changes port new.port
    pub part : BarePart (DoesChanged does changes) NoStore tells config old.server q old.clock new.server port new.clock

  joined : {p : P} {old mid new : Bare P C} → (a : Stage p old mid) → Stage a.port mid new → Stage p old new
  joined a b = record { port = b.port; changed = b.changed; part = parts (ServerLives config) 0 (DoesChanged does changes) tells NoStore a.part b.part }

  turned : (q : P) (old new : Bare P C) → HasChanged changes q old.port → {entry : Option Entry} → WatchesTurn does tells old.port old.clock old.server entry new.port new.clock new.server → Stage q old new
  turned q old new changed w =
      let m = moved does changes (acts_in w.turn) old.port new.port q changed w.port_did in
      record {
        port = m.port;
        changed = m.changed;
        part = bare.turned (DoesChanged does changes) NoStore tells config q m.port old.clock new.clock old.server new.server w.turn w.server m.did w.clock_told;
      }

  broke : (q : P) (old new : Bare P C) → HasChanged changes q old.port → Breaks does tells 1 old.port old.clock old.server new.port new.clock new.server → Stage q old new
  broke q old new changed b =
      let m = moved does changes (flat_map acts_in b.turns ++ acts_of b.failure) old.port new.port q changed b.port_did in
      record {
        port = m.port;
        changed = m.changed;
        part = bare.broken (DoesChanged does changes) NoStore tells config q m.port old.clock new.clock old.server new.server
            (record { turns = b.turns; mid = b.mid; failure = b.failure; server = b.server; fails = b.fails; port_did = m.did; clock_told = b.clock_told; fewer = b.fewer });
      }

  one : (q : P) (old new : Bare P C) → HasChanged changes q old.port → BareWorks does changes tells old new → Stage q old new
  one q old _ changed (takes_turn entry new w) = turned q old new changed w
  one q old _ changed (port_fails new b) = broke q old new changed b
  one q old _ changed (reads_clock now clock told) = record {
    port = q;
    changed = changed;
    part = read_alone (ServerLives config) 0 (DoesChanged does changes) tells NoStore now (λ story known. tt) told refl refl;
  }
  one q old _ changed (port_changes port change) = record {
    port = q;
    changed = changed_again old.port port changed change;
    part = no_part (ServerLives config) 0 (DoesChanged does changes) tells NoStore refl refl;
  }

  all : (old new : Bare P C) → IsBareAtWork does changes tells old new → Stage old.port old new
  all old _ begins = record { port = old.port; changed = stays; part = no_part (ServerLives config) 0 (DoesChanged does changes) tells NoStore refl refl }
  all old _ (goes_on mid new so_far works) =
      let a = all old mid so_far in
      joined a (one a.port mid new a.changed works)

  -- the clock is read, and the server starts
  started : (boot : C) (first : Bare P C) → BareStarts tells config boot first → Part (ServerLives config) 0 (DoesChanged does changes) tells NoStore Always never_up (bare_machine first.port boot) Always (up first.server) (bare_machine first.port first.clock)
  started boot first s = record {
    calls = reads s.now ∷ [];
    acts = act_at s.now ∷ act_at s.now ∷ [];
    did = (bare_machine first.port first.clock, (s.told, refl, refl), refl);
    lived = (up s.server, starts s.now s.server s.starts, (up (limited s.rows s.server), has_limit s.now s.rows s.server, ap up s.limit));
    goes = λ story known. (going_on s.now (act_at s.now ∷ act_at s.now ∷ []) story, refl, acts_at story _ s.now (act_at s.now ∷ act_at s.now ∷ []) [] (refl, (refl, tt)) refl (ends _), tt);
  }

  pub bare_work_is_lived : (boot : C) (first new : Bare P C) → BareStarts tells config boot first → IsBareAtWork does changes tells first new → BareWorkIsLived does changes tells config boot first new
  bare_work_is_lived boot first new begun work =
      let a = all first new work in
      record {
        port = a.port;
        changed = a.changed;
        lived = whole (ServerLives config) 0 (DoesChanged does changes) tells NoStore tt (parts (ServerLives config) 0 (DoesChanged does changes) tells NoStore (started boot first begun) a.part);
      }
