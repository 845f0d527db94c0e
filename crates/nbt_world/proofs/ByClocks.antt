-- What an end does by a clock that shows a constant more: the laws of nodes and servers, for the events of a world.
use Rattle.std.proofs.Common.{◌≡◌, ℕ, ◌+◌, List, Option, Some, None, refl, sym, ap, ◌∙◌, arith}
use Rattle.nbt_name.specs.declared.addr.Addr.{Addr}
use Rattle.nbt_name.specs.Wire.{NameValue}
use Rattle.nbt_packet.specs.Message.{MessageValue}
use Rattle.std.specs.Option.{option_map}
use Rattle.nbt_lease.specs.Config.{ConfigValue}
use Rattle.nbt_server.specs.Serving.{ServerValue}
use Rattle.nbt_server.specs.Shifted.{shifted_leases, shifted_server, TellsAlike as ServerTellsAlike, DoesAlike as ServerDoesAlike, StartsAlike as ServerStartsAlike}
use Rattle.nbt_node.specs.declared.lookup.Wanted.TheVariants.{Entries, Names}
use Rattle.nbt_node.specs.Node.{NodeValue}
use Rattle.nbt_node.specs.Moves.{ask, give_back}
use Rattle.nbt_node.specs.Shifted.{shifted_node, TellsAlike, DoesAlike}
use Rattle.nbt_world.specs.declared.ends.Ends.{Ends}
use Rattle.nbt_world.specs.declared.event.Event.{Event}
use Rattle.nbt_world.specs.Step.{CallOutcomeValue, NodeDoes, asks, ask_refused, gives_back, release_refused, resolves, resolve_refused, asks_status, status_refused, polls, polls_nothing, NodeHandles, TakenValue, ServerDoes, server_takes, server_forgets, Starts, server_starts, Resumes, server_resumes, EndTakes, finds_down, by_server}
use Rattle.nbt_world.specs.Safety.{held_by}
use Rattle.nbt_world.specs.Shifted.{NodesDoAlike, shifted_server_end, ServersDoAlike}

module _ (tells : (more : ℕ) (node : NodeValue) (now : ℕ) (name : NameValue) → TellsAlike more node now name) (doing : (more : ℕ) (old : NodeValue) (now : ℕ) (new : NodeValue) → DoesAlike more old now new) (more now : ℕ) where
  holds_alike : (node : Option NodeValue) (name : NameValue) → held_by (option_map (shifted_node more) node) name (now + more) ≡ held_by node name now
  holds_alike None name = refl
  holds_alike (Some node) name = (tells more node now name).held

  does_alike : (old new : NodeValue) (event : Event) (given : CallOutcomeValue) → NodeDoes old now event new given → NodeDoes (shifted_node more old) (now + more) event (shifted_node more new) given
  does_alike old _ _ _ (asks number name kind ttl new octets free sends) =
      asks number name kind ttl (shifted_node more new) octets ((tells more old now name).ask ∙ free) ((doing more old now new).sends name (ask kind ttl) octets sends)
  does_alike old _ _ _ (ask_refused number name kind ttl fault is) = ask_refused number name kind ttl fault ((tells more old now name).ask ∙ is)
  does_alike old _ _ _ (gives_back number name new octets free sends) =
      gives_back number name (shifted_node more new) octets ((tells more old now name).release ∙ free) ((doing more old now new).sends name give_back octets sends)
  does_alike old _ _ _ (release_refused number name fault is) = release_refused number name fault ((tells more old now name).release ∙ is)
  does_alike old _ _ _ (resolves number name new octets free opens) =
      resolves number name (shifted_node more new) octets ((tells more old now name).resolve ∙ free) ((doing more old now new).opens name old.server Entries octets opens)
  does_alike old _ _ _ (resolve_refused number name fault is) = resolve_refused number name fault ((tells more old now name).resolve ∙ is)
  does_alike old _ _ _ (asks_status number to name new octets free opens) =
      asks_status number to name (shifted_node more new) octets ((tells more old now name).status ∙ free) ((doing more old now new).opens name to Names octets opens)
  does_alike old _ _ _ (status_refused number to name fault is) = status_refused number to name fault ((tells more old now name).status ∙ is)
  does_alike old _ _ _ (polls number to new octets sends) = polls number to (shifted_node more new) octets ((doing more old now new).polls (Some to) octets sends)
  does_alike old _ _ _ (polls_nothing number new octets still) = polls_nothing number (shifted_node more new) octets ((doing more old now new).polls None octets still)

  handles_alike : (old new : NodeValue) (from : Addr) (octets : List ℕ) (reply : Option MessageValue) → NodeHandles now old from octets reply new → NodeHandles (now + more) (shifted_node more old) from octets reply (shifted_node more new)
  handles_alike old new from octets reply x =
      let alike = (doing more old now new).handles from octets x.told x.out x.handles in
      record { told = x.told; out = x.out; handles = alike.0; sent_is = alike.1 ∙ x.sent_is }

  pub nodes_do_alike : NodesDoAlike more now
  nodes_do_alike = record { holds = holds_alike; does = does_alike; handles = handles_alike }

module _ (starting : (more : ℕ) → ServerStartsAlike more) (tells : (more : ℕ) (server : ServerValue) (now : ℕ) → ServerTellsAlike more server now) (doing : (more : ℕ) (old : ServerValue) (now ip : ℕ) (octets : List ℕ) (new : ServerValue) → ServerDoesAlike more old now ip octets new) (more now : ℕ) where
  abbrev shift : Option ServerValue → Option ServerValue
  shift server = option_map (shifted_server more) server

  starts_alike : (config : ConfigValue) (old new : Ends) → Starts config now old 0 new → Starts config (now + more) (shifted_server_end more old) 0 (shifted_server_end more new)
  starts_alike config old _ (server_starts server down starts) = server_starts (shifted_server more server) (ap shift down) (starting more config now server starts)

  resumes_alike : (old new : Ends) → Resumes now old new → Resumes (now + more) (shifted_server_end more old) (shifted_server_end more new)
  resumes_alike old _ (server_resumes was server down crashed x) =
      server_resumes (shifted_server more was) (shifted_server more server) (ap shift down) (ap shift crashed)
      (record {
        leases = (tells more server now).leases ∙ ap (shifted_leases more) x.leases ∙ sym (tells more was now).leases;
        start = ap (λ (n : ℕ). n + more) x.start;
        config = x.config;
        limit = x.limit;
        was_called = let called = x.was_called in omega (arith, called);
        called = let called = x.called in omega (arith, called);
      })

  serves_alike : (old new : ServerValue) (ip : ℕ) (octets : List ℕ) (taken : TakenValue) → ServerDoes now old ip octets taken new → ServerDoes (now + more) (shifted_server more old) ip octets taken (shifted_server more new)
  serves_alike old _ ip octets _ (server_takes reply new x) = server_takes reply (shifted_server more new) ((doing more old now ip octets new).takes reply x)
  serves_alike old _ ip octets _ (server_forgets new x) = server_forgets (shifted_server more new) ((doing more old now ip octets new).forgets x)

  takes_alike : (old new : Ends) (from : Addr) (octets : List ℕ) (taken : TakenValue) → EndTakes now old from octets 0 taken new
      → EndTakes (now + more) (shifted_server_end more old) from octets 0 taken (shifted_server_end more new)
  takes_alike old _ from octets _ (finds_down _ down) = finds_down 0 (ap shift down)
  takes_alike old _ from octets taken (by_server server new _ up does) = by_server (shifted_server more server) (shifted_server more new) taken (ap shift up) (serves_alike server new from.ip octets taken does)

  pub servers_do_alike : ServersDoAlike more now
  servers_do_alike = record { starts = starts_alike; resumes = resumes_alike; takes = takes_alike }
