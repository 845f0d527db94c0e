-- A turn of a host, from its parts.
use Rattle.std.proofs.Common.{◌≡◌, List, [], ◌∷◌, ◌++◌, map, refl, sym, subst, ◌∙◌, ap}
use Rattle.nbt_node.specs.Node.{NodeValue}
use Rattle.nbt_port.specs.PortCalls.{PortCall, receive_failed, Chain}
use Rattle.nbt_client.specs.Turning.{PollsAll, BreaksPolls}
use Rattle.nbt_port.proofs.Chains.{chain_one, chain-append}
use Rattle.nbt_host.specs.declared.goal.Goal.{Goal}
use Rattle.nbt_host.specs.declared.watching.Look.{Look}
use Rattle.nbt_host.specs.Goals.{seen}
use Rattle.nbt_host.specs.Hosting.{HostValue, Terms, woken, seen_all, BreaksRequests, HostTurn, BreaksCalls, at_requests, at_polls, at_receive, at_reply, HostBreaks}
use Rattle.nbt_host.specs.Sleeping.{last_of}
use Rattle.nbt_host.specs.Releasing.{Releasing}
use Rattle.nbt_host.specs.Inner.Parts.{Listens, LosesListening, loses_receive, loses_send}
use Rattle.nbt_host.proofs.Orders.{Requested}

module _ {P K : Type 0} (does : P → PortCall → P → Type 0) (looks : K → Look → K → Type 0) (t : Terms) (old : Releasing P K) (first : Look) (d : K) (goals : List Goal) (node : NodeValue) (seen_goals : List Goal)
    (woke : ◌≡◌ {A = HostValue} (record { goals = goals; node = node }) (woken t first old.host)) (sees : seen_goals ≡ map (seen node first.at) goals) (looked : looks old.watch first d) where
  abbrev pub Turned : P → K → Look → HostValue → Type 0
  Turned q e last new = (acts : List PortCall) × (looks_of : List Look) × HostTurn t old.host acts looks_of new × (last ≡ last_of old.last looks_of) × Chain does old.port acts q × Chain looks old.watch looks_of e

  abbrev pub Broke : P → K → Look → HostValue → Type 0
  Broke q e last new = (acts : List PortCall) × (looks_of : List Look) × HostBreaks t old.host acts looks_of new × (last ≡ last_of old.last looks_of) × Chain does old.port acts q × Chain looks old.watch looks_of e

  abbrev pub Polled : P → NodeValue → P → NodeValue → Type 0
  Polled q requested r polled = (acts : List PortCall) × PollsAll first.at requested acts polled × Chain does q acts r

  -- the host after the first looks
  begun_is : ◌≡◌ {A = HostValue} (record { goals = seen_goals; node = node }) (seen_all first.at (woken t first old.host))
  begun_is = ap (λ (gs : List Goal). record { goals = gs; node = node }) sees ∙ ap (seen_all first.at) woke

  broke : (q : P) (e : K) (last : Look) (new : NodeValue) (acts : List PortCall) (later : List Look) → BreaksCalls t.server first.at seen_goals node acts later new → last ≡ last_of old.last (first ∷ later)
      → Chain does old.port acts q → Chain looks d later e → Broke q e last (record { goals = seen_goals; node = new })
  broke q e last new acts later calls last_is did told_later = (
    acts,
    first ∷ later,
    record { first = first; later = later; begun = record { goals = seen_goals; node = node }; begins = begun_is; calls = calls; looks_are = refl; goals_are = refl },
    last_is,
    did,
    (d, looked, told_later),
  )

  pub broke_at_requests : (q : P) (new : NodeValue) → ((acts : List PortCall) × BreaksRequests t.server first.at node seen_goals acts new × Chain does old.port acts q) → Broke q d first (record { goals = seen_goals; node = new })
  broke_at_requests q new x = broke q d first new x.0 [] (at_requests x.0 new x.1) refl x.2 refl

  pub broke_at_polls : (q r : P) (requested new : NodeValue) → Requested does t.server first.at old.port node seen_goals q requested → ((acts : List PortCall) × BreaksPolls first.at requested acts new × Chain does q acts r)
      → Broke r d first (record { goals = seen_goals; node = new })
  broke_at_polls q r requested new x y = broke r d first new (x.0 ++ y.0) [] (at_polls x.0 y.0 requested new x.1 y.1) refl (chain-append does old.port q r x.0 y.0 x.2 y.2) refl

  behind : (q r u : P) (requested polled : NodeValue) (x : Requested does t.server first.at old.port node seen_goals q requested) (y : Polled q requested r polled) (acts : List PortCall) → Chain does r acts u → Chain does old.port (x.0 ++ (y.0 ++ acts)) u
  behind q r u requested polled x y acts did = chain-append does old.port q u x.0 (y.0 ++ acts) x.2 (chain-append does q r u y.0 acts y.2 did)

  -- what is listened with
  abbrev pub Before : P → NodeValue → Releasing P K
  Before r polled = record { port = r; watch = d; last = first; host = record { goals = seen_goals; node = polled } }

  pub broke_at_listening : (q r : P) (requested polled : NodeValue) (new : Releasing P K) → Requested does t.server first.at old.port node seen_goals q requested → Polled q requested r polled
      → LosesListening does looks (Before r polled) new → Broke new.port new.watch new.last new.host
  broke_at_listening q r requested polled new x y (loses_receive did same) =
      let b : Releasing P K = Before r polled in
      subst (λ (n : Releasing P K). Broke n.port n.watch n.last n.host) (sym same)
      (broke new.port d first polled (x.0 ++ (y.0 ++ receive_failed ∷ [])) [] (at_receive x.0 y.0 requested polled x.1 y.1) refl
      (behind q r new.port requested polled x y (receive_failed ∷ []) (chain_one does r receive_failed new.port did)) refl)
  broke_at_listening q r requested polled new x y (loses_send second hearing awake loses same last_is did told) =
      subst (λ (gs : List Goal). Broke new.port new.watch new.last (record { goals = gs; node = new.host.node })) (sym same)
      (broke new.port new.watch new.last new.host.node (x.0 ++ (y.0 ++ hearing)) (second ∷ []) (at_reply second x.0 y.0 hearing requested polled new.host.node x.1 y.1 awake loses) last_is
      (behind q r new.port requested polled x y hearing did) (chain_one looks d second new.watch told))

  pub turned : (q r : P) (requested polled : NodeValue) (new : Releasing P K) → Requested does t.server first.at old.port node seen_goals q requested → Polled q requested r polled
      → Listens does looks t (Before r polled) new → Turned new.port new.watch new.last new.host
  turned q r requested polled new x y z = (
    x.0 ++ (y.0 ++ z.hearing),
    first ∷ z.second ∷ [],
    record {
      first = first;
      second = z.second;
      begun = record { goals = seen_goals; node = node };
      requesting = x.0;
      polling = y.0;
      hearing = z.hearing;
      requested = requested;
      polled = polled;
      begins = begun_is;
      requests = x.1;
      polls = y.1;
      hears = z.hears;
      acts_are = refl;
      looks_are = refl;
    },
    z.last_is,
    behind q r new.port requested polled x y z.hearing z.port_did,
    (d, looked, (new.watch, z.looked, refl)),
  )
