-- A receive, the look at the clocks after it, and what is made of what came.
use Rattle.std.proofs.Common.{◌≡◌, ℕ, Bool, true, false, List, [], ◌∷◌, map, Ok, refl, sym, subst, ap, ◌∙◌}
use Rattle.std.specs.Prelude.{Option, if◌then◌else◌}
use Rattle.nbt_node.specs.Node.{NodeValue}
use Rattle.nbt_node.specs.Calls.{started_from}
use Rattle.nbt_port.specs.declared.port.Route.{Route}
use Rattle.nbt_port.specs.PortCalls.{PortCall, send_failed, receiving}
use Rattle.nbt_port.proofs.Chains.{chain_one}
use Rattle.nbt_host.specs.declared.goal.Goal.{Goal}
use Rattle.nbt_host.specs.declared.news.Notice.{Notice}
use Rattle.nbt_host.specs.declared.watching.Look.{Look}
use Rattle.nbt_host.specs.Goals.{anew, heard_by}
use Rattle.nbt_host.specs.Hosting.{HostValue, Terms, first_id, started_again, woken, HostHears, HearsAfter, sleeps, wakes, LosesReply}
use Rattle.nbt_host.specs.Sleeping.{with_earlier}
use Rattle.nbt_host.specs.Releasing.{Releasing}
use Rattle.nbt_host.specs.Inner.Parts.{Listens, LosesListening, loses_send}
use Rattle.nbt_host.proofs.Replies.{Heard_by, Lost_by}

-- ---- a look at the clocks

module _ (t : Terms) (look : Look) (host : HostValue) (goals : List Goal) (node : NodeValue) where
  by_sleep : (slept : Bool) → goals ≡ (if slept then map anew host.goals else host.goals) → node ≡ (if slept then started_from t.slots host.node.addr t.server t.config look.at (first_id look) else host.node)
      → ◌≡◌ {A = HostValue} (record { goals = goals; node = node }) (if slept then started_again t look host else host)
  by_sleep true g n = rw (g, n) refl
  by_sleep false g n = rw (g, n) refl

-- the host after it, by its names and its node
pub is_woken : (t : Terms) (look : Look) (host : HostValue) (goals : List Goal) (node : NodeValue) → goals ≡ (if look.slept then map anew host.goals else host.goals)
    → node ≡ (if look.slept then started_from t.slots host.node.addr t.server t.config look.at (first_id look) else host.node) → ◌≡◌ {A = HostValue} (record { goals = goals; node = node }) (woken t look host)
is_woken t look host goals node g n = by_sleep t look host goals node look.slept g n

-- where the machine didn't sleep it stays as it was
is_awake : (t : Terms) (look : Look) (host : HostValue) → false ≡ look.slept → woken t look host ≡ host
is_awake t look host awake = ap (λ (slept : Bool). if slept then started_again t look host else host) (sym awake)

-- ---- what is made of what came

module _ {P K : Type 0} (does : P → PortCall → P → Type 0) (looks : K → Look → K → Type 0) (t : Terms) (old : Releasing P K) (q r : P) (w : K) (second last : Look)
    (found : Option Route) (octets given : List ℕ) (goals : List Goal) (node : NodeValue)
    (did : does old.port (receiving (Ok found) octets) q) (looked : looks old.watch second w) (last_is : last ≡ with_earlier old.last second)
    (woke : ◌≡◌ {A = HostValue} (record { goals = goals; node = node }) (woken t second old.host)) where
  pub slept_over : true ≡ second.slept → Listens does looks t old (record { port = q; watch = w; last = last; host = record { goals = goals; node = node } })
  slept_over slept = record {
    second = second;
    hearing = receiving (Ok found) octets ∷ [];
    hears = subst (λ (h : HostValue). HearsAfter t second old.host (receiving (Ok found) octets ∷ []) h) (sym woke) (sleeps found octets (sym slept));
    last_is = last_is;
    port_did = chain_one does old.port (receiving (Ok found) octets) q did;
    looked = looked;
  }

  pub heard_on : (notice : Option Notice) (new_goals : List Goal) (new : NodeValue) → false ≡ second.slept → given ≡ octets → Heard_by does t.server second.at node (receiving (Ok found) given) notice new q r
      → new_goals ≡ map (heard_by t.config new second.at notice) goals → Listens does looks t old (record { port = r; watch = w; last = last; host = record { goals = new_goals; node = new } })
  heard_on notice new_goals new awake same h takes =
      let is : ◌≡◌ {A = HostValue} (record { goals = goals; node = node }) old.host = woke ∙ is_awake t second old.host awake in
      let hearing : List PortCall = receiving (Ok found) given ∷ h.0 in
      let heard : HostHears t.server second.at old.host.node hearing notice new = subst (λ (x : HostValue). HostHears t.server second.at x.node hearing notice new) is h.1 in
      let taken : new_goals ≡ map (heard_by t.config new second.at notice) old.host.goals = takes ∙ ap (λ (x : HostValue). map (heard_by t.config new second.at notice) x.goals) is in
      record {
        second = second;
        hearing = hearing;
        hears = subst (λ (gs : List Goal). HearsAfter t second old.host hearing (record { goals = gs; node = new })) (sym taken) (wakes hearing notice new (sym awake) heard);
        last_is = last_is;
        port_did = (q, subst (λ (xs : List ℕ). does old.port (receiving (Ok found) xs) q) (sym same) did, h.2);
        looked = looked;
      }

  pub lost_on : (new : NodeValue) → false ≡ second.slept → given ≡ octets → Lost_by does second.at node (receiving (Ok found) given) new q r
      → LosesListening does looks old (record { port = r; watch = w; last = last; host = record { goals = goals; node = new } })
  lost_on new awake same h =
      let is : ◌≡◌ {A = HostValue} (record { goals = goals; node = node }) old.host = woke ∙ is_awake t second old.host awake in
      let hearing : List PortCall = receiving (Ok found) given ∷ send_failed h.0 h.1 ∷ [] in
      loses_send second hearing (sym awake) (subst (λ (x : HostValue). LosesReply second.at x.node hearing new) is h.2) (ap (λ (x : HostValue). x.goals) is) last_is
      (q, subst (λ (xs : List ℕ). does old.port (receiving (Ok found) xs) q) (sym same) did, chain_one does q (send_failed h.0 h.1) r h.3) looked
