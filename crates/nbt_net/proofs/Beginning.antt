-- A new network comes to be one in which a host can get a name.
use Rattle.std.proofs.Common.{◌≡◌, ℕ, suc, pred, ◌<◌, ◌≤◌, List, [], ◌∷◌, Some, None, refl, sym, ap, subst, ◌∙◌, arith}
use Rattle.std.specs.Prelude.{IsTrue, map, slice_get}
use Rattle.std.proofs.lemmas.Option.{none-some}
use Rattle.nbt_name.specs.declared.addr.Addr.{Addr}
use Rattle.nbt_name.specs.Wire.{NameValue}
use Rattle.nbt_packet.specs.declared.message.Registration.{Registration}
use Rattle.nbt_packet.specs.Message.{IsRegistration}
use Rattle.nbt_lease.specs.Config.{ConfigValue, IsConfig}
use Rattle.nbt_lease.specs.Drift.{quiet}
use Rattle.nbt_lease.specs.Lease.{leases_at, live_count}
use Rattle.nbt_server.specs.Serving.{ServerValue, IsOwn}
use Rattle.nbt_node.specs.Node.{NodeValue, slots_most}
use Rattle.nbt_node.specs.Calls.{started_from}
use Rattle.nbt_port.specs.PortCalls.{Chain}
use Rattle.nbt_world.specs.World.{WorldValue, AreAddrs, addr_of}
use Rattle.nbt_world.specs.Getting.{CanGet}
use Rattle.nbt_world.proofs.Apart.{addrs_at}
use Rattle.nbt_world.proofs.Keeping.{server_addr_with, node_with_here}
use Rattle.nbt_net.specs.Wire.{Act, Happening, clocks_go_on, acts, time_passes, end_acts, ends, goes_on}
use Rattle.nbt_net.specs.Servers.{never_up, up, act_at, ServerLives, starts}
use Rattle.nbt_net.specs.Hosts.{HostLives}
use Rattle.nbt_net.specs.Hosts as hosts
use Rattle.nbt_net.specs.Lives.{Network}
use Rattle.nbt_net.specs.Reaching.{with_end}
use Rattle.nbt_net.specs.Getting.{Gets, world_with}
use Rattle.nbt_net.proofs.Lives.{AllLaws, own_act, others_act, no_zero, no_suc}
use Rattle.nbt_net.proofs.Granting.{WrittenIsRead}
use Rattle.nbt_net.proofs.Getting.{with_host, host_here, GoesOn, network_on}
use Rattle.nbt_net.proofs.Readying.{gets}
use Rattle.nbt_net.proofs.NewWire.{new_wire, later_wire, new_is_fresh, reads_at, all_go_on}

-- ---- a new network

-- so long that each server speaks, and each host has rested
abbrev waited : ℕ
waited = 2000000000

abbrev new_server : ConfigValue → ServerValue
new_server config = record { start = 0; last = 0; table = record { config = config; last = 0; rows = [] }; client_rows = None }

nothing_leased : (moment : ℕ) (name : NameValue) → (leases_at moment [] name ≡ []) × (live_count moment [] ≡ 0)
unfolding leases_at live_count
nothing_leased moment name = (refl, refl)

quiet_few : (life : ℕ) → life ≤ 60000 → quiet life < waited
unfolding quiet
quiet_few life le = omega arith

module _ (laws : AllLaws) (law : WrittenIsRead) (config : ConfigValue) (server : Addr) (others : List Addr) (index : ℕ) (at : Addr) (r : Registration)
    (limits : IsConfig config) (are : AreAddrs (server ∷ others)) (at_is : slice_get (server ∷ others) (suc index) ≡ Some at) (numbers : IsRegistration r) (own : IsOwn at.ip r.name r.addr) where
  abbrev first : WorldValue
  first = new_wire config server others

  abbrev later : WorldValue
  later = later_wire config server others waited

  abbrev node : NodeValue
  node = started_from slots_most at server config 0 r.id

  abbrev third : List Happening
  third = clocks_go_on waited (map (λ (_ : Addr). waited) (server ∷ others)) ∷ []

  abbrev second : List Happening
  second = acts (suc index) (act_at 0) ∷ third

  abbrev beginning : List Happening
  beginning = acts 0 (act_at 0) ∷ second

  here : addr_of first.ends (suc index) ≡ Some at
  here = addrs_at server others (suc index) ∙ at_is

  begins : GoesOn config first never_up None index at beginning later (up (new_server config)) node
  begins = record {
    wires = first ∷ first ∷ first ∷ later ∷ [];
    goes = goes_on first first later (acts 0 (act_at 0)) second _ (end_acts 0 server (act_at 0) refl refl tt)
        (goes_on first first later (acts (suc index) (act_at 0)) third _ (end_acts (suc index) at (act_at 0) here refl tt)
        (goes_on first later later (clocks_go_on waited (map (λ (_ : Addr). waited) (server ∷ others))) [] _ (time_passes waited (map (λ (_ : Addr). waited) (server ∷ others)) later (all_go_on config server others waited (omega arith))) (ends later)));
    server_lives = subst (λ (own : List Act). Chain (ServerLives config) never_up own (up (new_server config))) (sym (own_act 0 (act_at 0) second ∙ ap (λ (rest : List Act). act_at 0 ∷ rest) (others_act 0 (suc index) (act_at 0) third no_suc)))
        (up (new_server config), starts 0 (new_server config) (record { start = refl; last = refl; config_is = refl; empty = refl; no_limit = refl }), refl);
    host_lives = subst (λ (own : List Act). Chain (HostLives config server at) None own (Some node)) (sym (others_act (suc index) 0 (act_at 0) second no_zero ∙ own_act (suc index) (act_at 0) third)) (Some node, hosts.starts 0 r.id, refl);
    others = λ i ne. others_act (suc i) 0 (act_at 0) second no_zero ∙ others_act (suc i) (suc index) (act_at 0) third (λ e. ne (sym (ap pred e)));
  }

  begun : Network config (server ∷ others) beginning later (up (new_server config)) (with_host (λ (_ : ℕ). None) index node)
  begun = network_on (record { first = first; fresh = new_is_fresh config server others; wires = first ∷ []; goes = ends first; server_lives = refl; hosts_live = λ i to is. refl }) refl here begins

  can_get : CanGet (world_with later (new_server config) index node) (suc index) r.name
  can_get = record {
    limits = limits;
    server = new_server config;
    server_up = refl;
    speaks = let most = limits.longest.1 in omega arith;
    free = (nothing_leased waited r.name).0;
    row = let some = limits.rows.0 in rw ((nothing_leased waited r.name).1) some;
    client_row = λ most addr limit is. absurd (none-some most limit);
    node = node;
    node_up = node_with_here (with_end later.ends (up (new_server config))) index (Some node) at (server_addr_with later.ends (Some (new_server config)) None (suc index) ∙ here);
    rested = let reads = reads_at config server others waited (suc index) at at_is in let few = quiet_few config.life limits.life.1 in omega arith;
    idle = refl;
    slot = refl;
    no_star = own.1;
  }

  pub gets_anew : (before : List Happening) × (wire : WorldValue) × IsTrue wire.kept × Gets config (server ∷ others) before wire index at r
  gets_anew = (beginning, later, refl, (gets laws law r (record { are_addrs = are; net = begun; host_at = here; host_is = host_here (λ (_ : ℕ). None) index node; can = can_get; numbers = numbers; addr_is = own.0; id_is = refl })).gets)
