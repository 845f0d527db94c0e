-- What a host does in an act is a run of the world.
use Rattle.std.proofs.Common.{◌≡◌, ℕ, suc, List, [], ◌∷◌, ◌++◌, Option, Some, None, refl, sym, ap, subst, ◌∙◌, append-nil}
use Rattle.nbt_name.specs.declared.addr.Addr.{Addr}
use Rattle.nbt_name.specs.Wire.{NameValue}
use Rattle.nbt_packet.specs.Message.{MessageValue}
use Rattle.nbt_node.specs.Node.{NodeValue, slots_most}
use Rattle.nbt_node.specs.Calls.{Polls, started, started_from, refreshing_soon}
use Rattle.nbt_node.specs.Moves.{Told}
use Rattle.nbt_node.specs.Datagrams.{Handles}
use Rattle.nbt_node.specs.Answering.{sent_back}
use Rattle.nbt_port.specs.declared.port.Route.{Route}
use Rattle.nbt_port.specs.PortCalls.{PortCall, nothing_came, came, receive_failed, send_failed, route_to}
use Rattle.nbt_client.specs.Turning.{PollsTo, polls_to, EndsPolls, has_nothing, polls_back}
use Rattle.nbt_host.specs.declared.goal.Goal.{Goal}
use Rattle.nbt_host.specs.declared.news.Notice.{Notice}
use Rattle.nbt_host.specs.Noticing.{doubted}
use Rattle.nbt_host.specs.Hosting.{sending_to, Requests, asks, may_not_ask, backs_off, gives_back, may_not_give_back, doubting, HostHears, hears_nothing, hears_back, hears, LosesReply, loses_reply}
use Rattle.nbt_world.specs.declared.ends.Ends.{Ends}
use Rattle.nbt_world.specs.declared.network.Datagram.{Datagram}
use Rattle.nbt_world.specs.declared.event.Event.{Event}
use Rattle.nbt_world.specs.declared.event.Event.TheVariants as event
use Rattle.nbt_world.specs.declared.event.Outcome.{Outcome}
use Rattle.nbt_world.specs.declared.event.Outcome.TheVariants as outcome
use Rattle.nbt_world.specs.Drift.{reading}
use Rattle.nbt_world.specs.World.{WorldValue, addr_of, node_of, with_node, datagram}
use Rattle.nbt_world.specs.Step.{Step, NodeDoes, CallOutcomeValue, nothing, octets_to, number_in, node_does, after, outcome_of, asks as node_asks, gives_back as node_gives_back, polls as node_polls, polls_nothing, takes as takes_it, by_node, after_taking, starts as start_is_step, node_starts, crashes as crash_is_step, node_crashes}
use Rattle.nbt_world.specs.Inner.Kept.{Invariant}
use Rattle.nbt_world.proofs.Keeping.{addr_with, node_with_here}
use Rattle.nbt_net.specs.Wire.{Act, sent_by, AllMayCome}
use Rattle.nbt_net.specs.Hosts as hosts
use Rattle.nbt_net.specs.Hosts.{HostActs, HostLives}
use Rattle.nbt_net.specs.Reaching.{by_event, by_taking, by_id, by_doubt, Reaches, stays, goes_on, AreSentOrMoveNone, HostsActIsARun}
use Rattle.nbt_net.proofs.Ends.{with_twice, with_same, once, none_sent, origin_of, same_sent}
use Rattle.nbt_net.proofs.Saying.{reply_to, said_back}

-- each event keeps the facts
abbrev pub StepKept : Type 0
StepKept = (old new : WorldValue) (event : Event) (outcome : Outcome) → Invariant old → Step old event outcome new → Invariant new

-- the node is another, and these datagrams were sent
abbrev doing : WorldValue → (index : ℕ) → Option NodeValue → List Datagram → WorldValue
doing w i node xs = record w { ends = with_node w.ends (suc i) node; sent = w.sent ++ xs }

module _ (law : StepKept) (w : WorldValue) (i : ℕ) (at : Addr) (kept : Invariant w) (there : addr_of w.ends (suc i) ≡ Some at) where
  -- a run of the world, with what these calls send, but for what moves no name
  abbrev Acted : Option NodeValue → List PortCall → Type 0
  Acted node calls = (more : List Datagram) × Reaches w (doing w i node more) × AreSentOrMoveNone (sent_by at w.now calls) more

  -- nothing is sent, and nothing changes
  same : (node : NodeValue) → node_of w.ends (suc i) ≡ Some node → w ≡ doing w i (Some node) []
  same node up = λ j. record w { ends = sym (with_same w.ends i node up) j; sent = sym (append-nil w.sent) j }

  unchanged : (node : NodeValue) (calls : List PortCall) → node_of w.ends (suc i) ≡ Some node → sent_by at w.now calls ≡ [] → Acted (Some node) calls
  unchanged node calls up none =
      ([], subst (λ (x : WorldValue). Reaches w x) (same node up) (stays w), subst (λ (xs : List Datagram). AreSentOrMoveNone xs []) (sym none) (none_sent []))

  module _ (node : NodeValue) (up : node_of w.ends (suc i) ≡ Some node) where
    own_server : node.server ≡ w.ends.server_addr
    own_server = (kept.nodes (suc i) at node there up).server_is

    stepped : (event : Event) {new : NodeValue} {given : CallOutcomeValue} → number_in event ≡ Some (suc i) → NodeDoes node (reading w.now (suc i)) event new given → Step w event (outcome_of w given) (after w (suc i) new given)
    stepped event {new} {given} own does = node_does event (suc i) node new given own up does

    -- a datagram is sent
    sends : (event : Event) (new : NodeValue) (to : Addr) (octets : List ℕ) → number_in event ≡ Some (suc i) → NodeDoes node (reading w.now (suc i)) event new (octets_to to octets) → Reaches w (doing w i (Some new) (datagram at to w.now octets ∷ []))
    sends event new to octets own does =
        let step = stepped event own does in
        let addr_is : new.addr ≡ at = ((law w _ event _ kept step).nodes (suc i) at new (addr_with w.ends i (Some new) (suc i) ∙ there) (node_with_here w.ends i (Some new) at there)).addr_is in
        once (by_event event _ _ (subst (λ (a : Addr). Step w event (outcome_of w (octets_to to octets)) (doing w i (Some new) (datagram a to w.now octets ∷ []))) addr_is step))

    -- none is
    does_quietly : (event : Event) (new : NodeValue) → number_in event ≡ Some (suc i) → NodeDoes node (reading w.now (suc i)) event new nothing → Reaches w (doing w i (Some new) [])
    does_quietly event new own does =
        subst (λ (xs : List Datagram). Reaches w (record w { ends = with_node w.ends (suc i) (Some new); sent = xs })) (sym (append-nil w.sent)) (once (by_event event _ _ (stepped event own does)))

    -- ---- requests and polls

    -- a request leaves, or is lost
    asked : (goal : Goal) (octets : List ℕ) (new : NodeValue) → Requests (reading w.now (suc i)) node goal (Some octets) new → Reaches w (doing w i (Some new) (datagram at w.ends.server_addr w.now octets ∷ []))
    asked goal _ _ (asks octets new wanted may does) =
        sends (event.Ask (suc i) goal.want.name goal.want.kind goal.want.ttl) new w.ends.server_addr octets refl
        (subst (λ (to : Addr). NodeDoes node (reading w.now (suc i)) (event.Ask (suc i) goal.want.name goal.want.kind goal.want.ttl) new (octets_to to octets)) own_server
        (node_asks (suc i) goal.want.name goal.want.kind goal.want.ttl new octets does.may does.sends))
    asked goal _ _ (gives_back octets new unwanted may does) =
        sends (event.Release (suc i) goal.want.name) new w.ends.server_addr octets refl
        (subst (λ (to : Addr). NodeDoes node (reading w.now (suc i)) (event.Release (suc i) goal.want.name) new (octets_to to octets)) own_server (node_gives_back (suc i) goal.want.name new octets may does))

    none_asked : (goal : Goal) (new : NodeValue) → Requests (reading w.now (suc i)) node goal None new → new ≡ node
    none_asked goal _ (may_not_ask fault wanted may refused) = refl
    none_asked goal _ (backs_off wanted may) = refl
    none_asked goal _ (may_not_give_back fault unwanted refused) = refl

    requested : (goal : Goal) (request : Option (List ℕ)) (new : NodeValue) → Requests (reading w.now (suc i)) node goal request new → Acted (Some new) (sending_to (route_to w.ends.server_addr) request)
    requested goal None new does = subst (λ (x : NodeValue). Acted (Some x) []) (sym (none_asked goal new does)) (unchanged node [] up refl)
    requested goal (Some octets) new does = (datagram at w.ends.server_addr w.now octets ∷ [], asked goal octets new does, same_sent (datagram at w.ends.server_addr w.now octets ∷ []))

    polled : (to : Addr) (octets : List ℕ) (new : NodeValue) → Polls node (reading w.now (suc i)) new (Some to) octets → Reaches w (doing w i (Some new) (datagram at to w.now octets ∷ []))
    polled to octets new does = sends (event.Poll (suc i)) new to octets refl (node_polls (suc i) to new octets does)

    polls_sent : (call : PortCall) (new : NodeValue) → PollsTo (reading w.now (suc i)) node call new → Acted (Some new) (call ∷ [])
    polls_sent _ _ (polls_to to octets new does) = (datagram at to w.now octets ∷ [], polled to octets new does, same_sent (datagram at to w.now octets ∷ []))

    polls_ended : (new : NodeValue) → EndsPolls (reading w.now (suc i)) node new → Acted (Some new) []
    polls_ended new (has_nothing octets _ does) = ([], does_quietly (event.Poll (suc i)) new refl (polls_nothing (suc i) new octets does), none_sent [])
    polls_ended _ (polls_back early) = unchanged node [] up refl

    -- ---- what is heard

    replied : (from : Addr) (reply : Option MessageValue) (new : NodeValue) → after_taking w (with_node w.ends (suc i) (Some new)) at from (takes_it reply) ≡ doing w i (Some new) (reply_to at from w.now reply)
    replied from None new = ap (λ (xs : List Datagram). record w { ends = with_node w.ends (suc i) (Some new); sent = xs }) (sym (append-nil w.sent))
    replied from (Some message) new = refl

    -- a datagram was handled
    handled : (from : Route) (octets : List ℕ) (calls : List PortCall) {out : List ℕ} {told : Told} (new : NodeValue) → AllMayCome w at (came from octets ∷ calls) → (h : Handles node (reading w.now (suc i)) from.peer octets new told out)
        → Reaches w (doing w i (Some new) (reply_to at from.peer w.now h.sent))
    handled from octets calls {out} {told} new comes h =
        subst (λ (x : WorldValue). Reaches w x) (replied from.peer h.sent new)
        (once (by_taking (suc i) from.peer at octets (takes_it h.sent) _ there (origin_of comes.0) (by_node i node new h.sent up (record { told = told; out = out; handles = h; sent_is = refl }))))

    doubts : (mid : NodeValue) (xs : List Datagram) (name : Option NameValue) → Reaches w (doing w i (Some mid) xs) → Reaches w (doing w i (Some (doubting mid name)) xs)
    doubts mid xs None reached = reached
    doubts mid xs (Some name) reached =
        subst (λ (ends : Ends). Reaches w (record w { ends = ends; sent = w.sent ++ xs })) (with_twice w.ends i (Some mid) (Some (refreshing_soon mid name)))
        (goes_on w (doing w i (Some mid) xs) _ reached (by_doubt i mid name (node_with_here w.ends i (Some mid) at there)))

    heard : (calls : List PortCall) (notice : Option Notice) (new : NodeValue) → AllMayCome w at calls → HostHears w.ends.server_addr (reading w.now (suc i)) node calls notice new → Acted (Some new) calls
    heard _ _ _ comes hears_nothing = unchanged node (nothing_came ∷ []) up refl
    heard _ _ _ comes (hears_back from octets early) = unchanged node (came from octets ∷ []) up refl
    heard _ _ _ comes (hears from octets reply message told mid h says) = (
      reply_to at from.peer w.now h.sent,
      doubts mid (reply_to at from.peer w.now h.sent) (doubted w.ends.server_addr from.peer message told) (handled from octets (sending_to from (sent_back mid (reading w.now (suc i)) message told reply)) mid comes h),
      said_back at from w.now reply h.sent h.written mid (reading w.now (suc i)) message told,
    )

    lost : (calls : List PortCall) (new : NodeValue) → AllMayCome w at calls → LosesReply (reading w.now (suc i)) node calls new → Acted (Some new) calls
    lost _ _ comes (loses_reply from octets reply said message told new h says is) = (
      reply_to at from.peer w.now h.sent,
      handled from octets (send_failed from said ∷ []) new comes h,
      subst (λ (o : Option (List ℕ)). AreSentOrMoveNone (sent_by at w.now (sending_to from o)) (reply_to at from.peer w.now h.sent)) is (said_back at from w.now reply h.sent h.written new (reading w.now (suc i)) message told),
    )

    acted : (calls : List PortCall) (new : NodeValue) → AllMayCome w at calls → HostActs w.ends.server_addr (reading w.now (suc i)) node calls new → Acted (Some new) calls
    acted _ _ comes (hosts.requests goal request new does) = requested goal request new does
    acted _ _ comes (hosts.loses_request goal octets new does) = (datagram at w.ends.server_addr w.now octets ∷ [], asked goal octets new does, same_sent (datagram at w.ends.server_addr w.now octets ∷ []))
    acted _ _ comes (hosts.polls call new does) = polls_sent call new does
    acted _ _ comes (hosts.loses_poll to octets new does) = (datagram at to w.now octets ∷ [], polled to octets new does, same_sent (datagram at to w.now octets ∷ []))
    acted _ _ comes (hosts.ends_polls new does) = polls_ended new does
    acted _ _ comes (hosts.hears calls notice new does) = heard calls notice new comes does
    acted _ _ comes (hosts.loses_reply calls new does) = lost calls new comes does
    acted _ _ comes hosts.cannot_hear = unchanged node (receive_failed ∷ []) up refl

  -- ---- a life

  started_so : (id : ℕ) → node_of w.ends (suc i) ≡ None → Reaches w (record w { ends = with_node w.ends (suc i) (Some (started_from slots_most at w.ends.server_addr w.config (reading w.now (suc i)) id)) })
  started_so id down =
      subst (λ (es : Ends). Reaches w (record w { ends = es })) (with_twice w.ends i (Some first) (Some (record first { next_id = id })))
      (goes_on w mid _ (once (by_event (event.Start (suc i)) outcome.Done mid (start_is_step (suc i) mid.ends (node_starts i at there down)))) (by_id i id first (node_with_here w.ends i (Some first) at there)))
    where
      first : NodeValue
      first = started slots_most at w.ends.server_addr w.config (reading w.now (suc i))

      mid : WorldValue
      mid = record w { ends = with_node w.ends (suc i) (Some first) }

  none_more : (node : Option NodeValue) → Reaches w (record w { ends = with_node w.ends (suc i) node }) → Acted node []
  none_more node reached = ([], subst (λ (xs : List Datagram). Reaches w (record w { ends = with_node w.ends (suc i) node; sent = xs })) (sym (append-nil w.sent)) reached, none_sent [])

  lived : {before new : Option NodeValue} {act : Act} → node_of w.ends (suc i) ≡ before → HostLives w.config w.ends.server_addr at before act new → act.now ≡ reading w.now (suc i) → AllMayCome w at act.calls → Acted new act.calls
  lived is (hosts.starts now id) here comes =
      none_more _ (subst (λ (n : ℕ). Reaches w (record w { ends = with_node w.ends (suc i) (Some (started_from slots_most at w.ends.server_addr w.config n id)) })) (sym here) (started_so id is))
  lived is (hosts.does now calls old new does) here comes = acted old is calls new comes (subst (λ (n : ℕ). HostActs w.ends.server_addr n old calls new) here does)
  lived is (hosts.crashes now node) here comes = none_more None (once (by_event (event.Crash (suc i)) outcome.Done _ (crash_is_step (suc i) _ (node_crashes i node is))))

pub hosts_act : StepKept → HostsActIsARun
hosts_act law w i at before new act kept there is lives here comes = lived law w i at kept there is lives here comes
