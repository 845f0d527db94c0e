-- A host's turn is acts of its life.
use Rattle.std.proofs.Common.{◌≡◌, ℕ, Bool, true, false, if◌then◌else◌, List, [], ◌∷◌, ◌++◌, Option, Some, None, Ok, refl, sym, ap, subst, ◌∙◌, append-nil, append_assoc, inl, inr}
use Rattle.std.specs.List.{AllByRecursion}
use Rattle.std.proofs.lemmas.Bool.{cases_Bool}
use Rattle.std.proofs.lemmas.Grind.{flat_map-append}
use Rattle.nbt_name.specs.declared.addr.Addr.{Addr}
use Rattle.nbt_name.specs.Wire.{NameValue}
use Rattle.nbt_lease.specs.Config.{ConfigValue}
use Rattle.nbt_node.specs.Node.{NodeValue, slots_most}
use Rattle.nbt_node.specs.Calls.{Polls, polls_name, polls_lookup, polls_nothing, started_from}
use Rattle.nbt_node.specs.Moves.{NameEvent, NameMoves, Told}
use Rattle.nbt_node.specs.Datagrams.{NodeTakesOctets, spelled, unspelled, NodeTakes, NodeHears, from_server, from_stranger, Lists, lists_names, lists_nothing, Ends, is_answered, is_unanswered, Idles, idles}
use Rattle.nbt_packet.specs.Message.{MessageValue, status_request, registered, released, found, not_found, status, wait}
use Rattle.nbt_port.specs.declared.port.Route.{Route}
use Rattle.nbt_port.specs.PortCalls.{PortCall, receive_failed, receiving, Chain}
use Rattle.nbt_port.proofs.Chains.{chain_one, chain-append}
use Rattle.nbt_client.specs.Turning.{PollsTo, polls_to, EndsPolls, has_nothing, polls_back, PollsAll, BreaksPolls, at_send}
use Rattle.nbt_host.specs.declared.goal.Goal.{Goal}
use Rattle.nbt_host.specs.declared.news.Notice.{Notice}
use Rattle.nbt_host.specs.declared.watching.Look.{Look}
use Rattle.nbt_host.specs.Noticing.{doubted}
use Rattle.nbt_host.specs.Hosting.{Requests, asks, may_not_ask, backs_off, gives_back, may_not_give_back, RequestsAll, of_none, of_next, BreaksRequests, at_request, doubting, HostHears, hears_nothing, hears_back, hears, LosesReply, loses_reply, HostValue, Terms, first_id, woken, HearsAfter, sleeps, wakes, HostTurn, BreaksCalls, at_requests, at_polls, at_receive, at_reply}
use Rattle.nbt_net.specs.Wire.{Act}
use Rattle.nbt_net.specs.Servers.{act_at}
use Rattle.nbt_net.specs.Hosts as hosts
use Rattle.nbt_net.specs.Hosts.{HostActs, HostLives}
use Rattle.nbt_net.specs.Turns.{calls_in, AreAtLooks, IsReceive, LeavesReceivesOut, nothing, not_this, this, LivesThrough, HostTurnsAreLived, BrokenTurnsAreLived, HostsLiveOn}

-- ---- each act keeps the node's address

moves_keep : {old new : NodeValue} {now : ℕ} {name : NameValue} {event : NameEvent} {sent : Option MessageValue} {told : Told} → NameMoves old now name event new sent told → new.addr ≡ old.addr
moves_keep moves = ap (λ (n : NodeValue). n.addr) moves.node

polls_keep : {old new : NodeValue} {now : ℕ} {to : Option Addr} {octets : List ℕ} → Polls old now new to octets → new.addr ≡ old.addr
polls_keep (polls_name slot new octets due sends) = moves_keep sends.moves
polls_keep (polls_lookup l new octets none due looks written) = ap (λ (n : NodeValue). n.addr) looks
polls_keep (polls_nothing new none idle passes) = ap (λ (n : NodeValue). n.addr) passes

hears_keeps : {old new : NodeValue} {now : ℕ} {from : Addr} {name : NameValue} {message : MessageValue} {sent : Option MessageValue} {told : Told} → NodeHears old now from name message new sent told → new.addr ≡ old.addr
hears_keeps (from_server new told same moves) = moves_keep moves
hears_keeps (from_stranger new other passes) = ap (λ (n : NodeValue). n.addr) passes

lists_keep : {old new : NodeValue} {now id : ℕ} {name : NameValue} {sent : Option MessageValue} {told : Told} → Lists old now id name new sent told → new.addr ≡ old.addr
lists_keep (lists_names new listed passes) = ap (λ (n : NodeValue). n.addr) passes
lists_keep (lists_nothing new unlisted passes) = ap (λ (n : NodeValue). n.addr) passes

ends_keep : {old new : NodeValue} {now : ℕ} {from : Addr} {message : MessageValue} {tells : Told} {sent : Option MessageValue} {told : Told} → Ends old now from message tells new sent told → new.addr ≡ old.addr
ends_keep (is_answered new ends looks) = ap (λ (n : NodeValue). n.addr) looks
ends_keep (is_unanswered new unended passes) = ap (λ (n : NodeValue). n.addr) passes

idles_keep : {old new : NodeValue} {now : ℕ} {sent : Option MessageValue} {told : Told} → Idles old now new sent told → new.addr ≡ old.addr
idles_keep (idles new passes) = ap (λ (n : NodeValue). n.addr) passes

takes_keeps : (message : MessageValue) (old new : NodeValue) (now : ℕ) (from : Addr) (reply : Option MessageValue) (told : Told) → NodeTakes old now from message new reply told → new.addr ≡ old.addr
takes_keeps (registered rcode r) old new now from reply told does = hears_keeps does
takes_keeps (released id rcode name kind addr) old new now from reply told does = hears_keeps does
takes_keeps (wait id name ttl) old new now from reply told does = hears_keeps does
takes_keeps (status_request id name) old new now from reply told does = lists_keep does
takes_keeps (found id name ttl entries cut) old new now from reply told does = ends_keep does
takes_keeps (not_found id rcode name) old new now from reply told does = ends_keep does
takes_keeps (status id name names) old new now from reply told does = ends_keep does
takes_keeps message old new now from reply told does = idles_keep does

octets_keep : {old new : NodeValue} {now : ℕ} {from : Addr} {octets : List ℕ} {sent : Option MessageValue} {told : Told} → NodeTakesOctets old now from octets new sent told → new.addr ≡ old.addr
octets_keep {old} {now = now} {from} (spelled message new reply told spells does) = takes_keeps message old new now from reply told does
octets_keep (unspelled new none passes) = ap (λ (n : NodeValue). n.addr) passes

doubting_keeps : (node : NodeValue) (name : Option NameValue) → (doubting node name).addr ≡ node.addr
doubting_keeps node None = refl
doubting_keeps node (Some name) = refl

requests_keep : {now : ℕ} {old new : NodeValue} {goal : Goal} {request : Option (List ℕ)} → Requests now old goal request new → new.addr ≡ old.addr
requests_keep (asks octets new wanted may does) = moves_keep does.sends.moves
requests_keep (may_not_ask fault wanted may refused) = refl
requests_keep (backs_off wanted may) = refl
requests_keep (gives_back octets new unwanted may does) = moves_keep does.moves
requests_keep (may_not_give_back fault unwanted refused) = refl

polls_to_keeps : {now : ℕ} {old new : NodeValue} {call : PortCall} → PollsTo now old call new → new.addr ≡ old.addr
polls_to_keeps (polls_to to octets new does) = polls_keep does

ends_polls_keep : {now : ℕ} {old new : NodeValue} → EndsPolls now old new → new.addr ≡ old.addr
ends_polls_keep (has_nothing octets new does) = polls_keep does
ends_polls_keep (polls_back early) = refl

host_hears_keeps : {server : Addr} {now : ℕ} {old new : NodeValue} {calls : List PortCall} {notice : Option Notice} → HostHears server now old calls notice new → new.addr ≡ old.addr
host_hears_keeps hears_nothing = refl
host_hears_keeps (hears_back from octets early) = refl
host_hears_keeps {server} (hears from octets reply message told mid handles says) = doubting_keeps mid (doubted server from.peer message told) ∙ octets_keep handles.takes

loses_keeps : {now : ℕ} {old new : NodeValue} {calls : List PortCall} → LosesReply now old calls new → new.addr ≡ old.addr
loses_keeps (loses_reply from octets reply lost message told new handles says is) = octets_keep handles.takes

acts_keep : {server : Addr} {now : ℕ} {old new : NodeValue} {calls : List PortCall} → HostActs server now old calls new → new.addr ≡ old.addr
acts_keep (hosts.requests goal request new does) = requests_keep does
acts_keep (hosts.loses_request goal octets new does) = requests_keep does
acts_keep (hosts.polls call new does) = polls_to_keeps does
acts_keep (hosts.loses_poll to octets new does) = polls_keep does
acts_keep (hosts.ends_polls new does) = ends_polls_keep does
acts_keep (hosts.hears calls notice new does) = host_hears_keeps does
acts_keep (hosts.loses_reply calls new does) = loses_keeps does
acts_keep hosts.cannot_hear = refl

-- ---- parts of a turn

all_at-append : (now : ℕ) (xs ys : List Act) → AllByRecursion (λ act. act.now ≡ now) xs → AllByRecursion (λ act. act.now ≡ now) ys → AllByRecursion (λ act. act.now ≡ now) (xs ++ ys)
all_at-append now [] ys front back = back
all_at-append now (x ∷ xs) ys front back = (front.0, all_at-append now xs ys front.1 back)

calls-append : (xs ys : List Act) → calls_in (xs ++ ys) ≡ calls_in xs ++ calls_in ys
calls-append xs ys = flat_map-append (λ act. act.calls) xs ys

both : {A : Type 0} {xs ys zs ws : List A} → xs ≡ zs → ys ≡ ws → xs ++ ys ≡ zs ++ ws
both p q = λ j. p j ++ q j

-- The node of a host did this at one moment: these acts, with these calls.
pub record Does (config : ConfigValue) (server at : Addr) (now : ℕ) (old : NodeValue) (calls : List PortCall) (new : NodeValue) : Type 0 where
  pub acts : List Act
  pub lives : Chain (HostLives config server at) (Some old) acts (Some new)
  pub at_now : AllByRecursion (λ act. act.now ≡ now) acts
  pub calls_are : calls_in acts ≡ calls
  pub addr_is : new.addr ≡ old.addr

module _ {config : ConfigValue} {server at : Addr} {now : ℕ} where
  pub does_nothing : (node : NodeValue) → Does config server at now node [] node
  does_nothing node = record { acts = []; lives = refl; at_now = tt; calls_are = refl; addr_is = refl }

  pub does_one : {old new : NodeValue} (calls : List PortCall) → HostActs server now old calls new → Does config server at now old calls new
  does_one {old} {new} calls does = record {
    acts = record { now = now; calls = calls } ∷ [];
    lives = chain_one (HostLives config server at) (Some old) (record { now = now; calls = calls }) (Some new) (hosts.does now calls old new does);
    at_now = (refl, tt);
    calls_are = append-nil calls;
    addr_is = acts_keep does;
  }

  pub does_both : {old mid new : NodeValue} {xs ys : List PortCall} → Does config server at now old xs mid → Does config server at now mid ys new → Does config server at now old (xs ++ ys) new
  does_both {old} {mid} {new} a b = record {
    acts = a.acts ++ b.acts;
    lives = chain-append (HostLives config server at) (Some old) (Some mid) (Some new) a.acts b.acts a.lives b.lives;
    at_now = all_at-append now a.acts b.acts a.at_now b.at_now;
    calls_are = calls-append a.acts b.acts ∙ both a.calls_are b.calls_are;
    addr_is = b.addr_is ∙ a.addr_is;
  }

  pub all_requested : {old new : NodeValue} {goals : List Goal} {calls : List PortCall} → RequestsAll server now old goals calls new → Does config server at now old calls new
  all_requested {old} of_none = does_nothing old
  all_requested (of_next goals goal calls request mid new before last) = does_both (all_requested before) (does_one _ (hosts.requests goal request new last))

  pub requests_broken : {old new : NodeValue} {goals : List Goal} {calls : List PortCall} → BreaksRequests server now old goals calls new → Does config server at now old calls new
  requests_broken (at_request goals rest goal calls octets mid new before last) = does_both (all_requested before) (does_one _ (hosts.loses_request goal octets new last))

  polls_done : (calls : List PortCall) {old new : NodeValue} → Chain (PollsTo now) old calls new → Does config server at now old calls new
  polls_done [] {old} chain = subst (λ (n : NodeValue). Does config server at now old [] n) (sym chain) (does_nothing old)
  polls_done (call ∷ calls) chain = does_both (does_one (call ∷ []) (hosts.polls call chain.0 chain.1)) (polls_done calls chain.2)

  pub all_polled : {old new : NodeValue} {calls : List PortCall} → PollsAll now old calls new → Does config server at now old calls new
  all_polled {old} {new} {calls} p = subst (λ (cs : List PortCall). Does config server at now old cs new) (append-nil calls) (does_both (polls_done calls p.polls) (does_one [] (hosts.ends_polls new p.ends)))

  pub polls_broken : {old new : NodeValue} {calls : List PortCall} → BreaksPolls now old calls new → Does config server at now old calls new
  polls_broken (at_send polling mid new to octets chain poll) = does_both (polls_done polling chain) (does_one _ (hosts.loses_poll to octets new poll))

-- ---- looks, at which the machine may have slept

pick : {A : Type 0} (b : Bool) (x y : A) → b ≡ true → (if b then x else y) ≡ x
pick b x y is = rw is refl

pass : {A : Type 0} (b : Bool) (x y : A) → b ≡ false → (if b then x else y) ≡ y
pass b x y is = rw is refl

-- a host whose machine slept crashed, and started at that look
pub wakes_up : (t : Terms) (look : Look) (host : HostValue) → t.slots ≡ slots_most → Does t.config t.server host.node.addr look.at host.node [] (woken t look host).node
wakes_up t look host slots = elim (cases_Bool look.slept) [
  | inl slept ↦ subst (λ (n : NodeValue). Does t.config t.server host.node.addr look.at host.node [] n) (sym (ap (λ (h : HostValue). h.node) (pick look.slept _ host slept))) begins_anew
  | inr awake ↦ subst (λ (n : NodeValue). Does t.config t.server host.node.addr look.at host.node [] n) (sym (ap (λ (h : HostValue). h.node) (pass look.slept _ host awake))) (does_nothing host.node)
]
  where
    begun : (slots : ℕ) → NodeValue
    begun slots = started_from slots host.node.addr t.server t.config look.at (first_id look)

    begins_anew : Does t.config t.server host.node.addr look.at host.node [] (begun t.slots)
    begins_anew = subst (λ (n : ℕ). Does t.config t.server host.node.addr look.at host.node [] (begun n)) (sym slots) (record {
      acts = act_at look.at ∷ act_at look.at ∷ [];
      lives = (None, hosts.crashes look.at host.node, (Some (begun slots_most), hosts.starts look.at (first_id look), refl));
      at_now = (refl, (refl, tt));
      calls_are = refl;
      addr_is = refl;
    })

-- ---- all of the second list, or what is left of it

all_left : (xs : List PortCall) → LeavesReceivesOut xs xs
all_left [] = nothing
all_left (x ∷ xs) = not_this x xs xs (all_left xs)

-- a receive alone
received : (found : Option Route) (octets : List ℕ) → IsReceive (receiving (Ok found) octets)
received None octets = tt
received (Some from) octets = tt

front_left : (xs : List PortCall) {ys zs : List PortCall} → LeavesReceivesOut ys zs → LeavesReceivesOut (xs ++ ys) (xs ++ zs)
front_left [] left = left
front_left (x ∷ xs) left = not_this x _ _ (front_left xs left)

-- ---- a turn

module _ (t : Terms) (old : HostValue) (slots : t.slots ≡ slots_most) where
  abbrev Here : (now : ℕ) → NodeValue → List PortCall → NodeValue → Type 0
  Here now before calls new = Does t.config t.server old.node.addr now before calls new

  first_part : (look : Look) (begun : HostValue) {calls : List PortCall} {new : NodeValue} → begun.node ≡ (woken t look old).node → Here look.at begun.node calls new → Here look.at old.node calls new
  first_part look begun {calls} {new} is does = does_both (wakes_up t look old slots) (subst (λ (n : NodeValue). Here look.at n calls new) is does)

  -- acts at one look
  one_look : (look : Look) (new : HostValue) {calls : List PortCall} → Here look.at old.node calls new.node → LivesThrough t old calls (look ∷ []) new
  one_look look new {calls} d = record {
    acts = d.acts;
    lives = d.lives;
    at_looks = (d.acts, [], sym (append-nil d.acts), d.at_now, refl);
    calls_are = subst (λ (cs : List PortCall). LeavesReceivesOut (calls_in d.acts) cs) d.calls_are (all_left (calls_in d.acts));
    addr_is = d.addr_is;
  }

  -- and at two
  two_looks : (first second : Look) (mid : NodeValue) (new : HostValue) {early late all : List PortCall} → Here first.at old.node early mid → Here second.at mid late new.node → LeavesReceivesOut (early ++ late) all → LivesThrough t old all (first ∷ second ∷ []) new
  two_looks first second mid new {early} {late} {all} a b left = record {
    acts = a.acts ++ b.acts;
    lives = chain-append (HostLives t.config t.server old.node.addr) (Some old.node) (Some mid) (Some new.node) a.acts b.acts a.lives b.lives;
    at_looks = (a.acts, b.acts, refl, a.at_now, (b.acts, [], sym (append-nil b.acts), b.at_now, refl));
    calls_are = subst (λ (cs : List PortCall). LeavesReceivesOut cs all) (sym (calls-append a.acts b.acts ∙ both a.calls_are b.calls_are)) left;
    addr_is = b.addr_is ∙ a.addr_is;
  }

  -- what is made of what a receive was
  heard : (first look : Look) (begun : HostValue) (polled : NodeValue) (early hearing : List PortCall) (new : HostValue) → Here first.at old.node early polled → HearsAfter t look (record begun { node = polled }) hearing new
      → LivesThrough t old (early ++ hearing) (first ∷ look ∷ []) new
  heard first look begun polled early _ _ a (sleeps taken octets slept) =
      two_looks first look polled _ a (subst (λ (at : Addr). Does t.config t.server at look.at polled [] (woken t look (record begun { node = polled })).node) a.addr_is (wakes_up t look (record begun { node = polled }) slots))
      (front_left early (this (receiving (Ok taken) octets) [] [] (received taken octets) nothing))
  heard first look begun polled early hearing _ a (wakes _ notice new awake h) = two_looks first look polled _ a (does_one hearing (hosts.hears hearing notice new h)) (all_left (early ++ hearing))

  -- calls in two parts, with their looks
  as_said : {new : HostValue} {calls all : List PortCall} {looks seen : List Look} → calls ≡ all → looks ≡ seen → LivesThrough t old all seen new → LivesThrough t old calls looks new
  as_said {new} {calls} {seen = seen} calls_are looks_are l = subst (λ (ls : List Look). LivesThrough t old calls ls new) (sym looks_are) (subst (λ (cs : List PortCall). LivesThrough t old cs seen new) (sym calls_are) l)

  turn_lived : {calls : List PortCall} {looks : List Look} {new : HostValue} → HostTurn t old calls looks new → LivesThrough t old calls looks new
  turn_lived {new = new} turn =
      as_said (turn.acts_are ∙ sym (append_assoc turn.requesting turn.polling turn.hearing)) turn.looks_are
      (heard turn.first turn.second turn.begun turn.polled (turn.requesting ++ turn.polling) turn.hearing new
      (first_part turn.first turn.begun (ap (λ (h : HostValue). h.node) turn.begins) (does_both (all_requested turn.requests) (all_polled turn.polls))) turn.hears)

  broken : {first : Look} {begun : HostValue} {calls : List PortCall} {later : List Look} {node : NodeValue} (new : HostValue) → new.node ≡ node → begun.node ≡ (woken t first old).node → BreaksCalls t.server first.at begun.goals begun.node calls later node
      → LivesThrough t old calls (first ∷ later) new
  broken {first} {begun} new is begins (at_requests requesting node does) = one_look first new (first_part first begun begins (subst (λ (n : NodeValue). Here first.at begun.node requesting n) (sym is) (requests_broken does)))
  broken {first} {begun} new is begins (at_polls requesting polling requested node does polls) =
      one_look first new (first_part first begun begins (subst (λ (n : NodeValue). Here first.at begun.node (requesting ++ polling) n) (sym is) (does_both (all_requested does) (polls_broken polls))))
  broken {first} {begun} new is begins (at_receive requesting polling requested node does polls) =
      one_look first new (first_part first begun begins (subst (λ (n : NodeValue). Here first.at begun.node (requesting ++ (polling ++ receive_failed ∷ [])) n) (sym is)
      (does_both (all_requested does) (does_both (all_polled polls) (does_one (receive_failed ∷ []) hosts.cannot_hear)))))
  broken {first} {begun} new is begins (at_reply second requesting polling hearing requested polled node does polls awake loses) =
      as_said (sym (append_assoc requesting polling hearing)) refl
      (two_looks first second polled new (first_part first begun begins (does_both (all_requested does) (all_polled polls)))
      (subst (λ (n : NodeValue). Here second.at polled hearing n) (sym is) (does_one hearing (hosts.loses_reply hearing node loses))) (all_left ((requesting ++ polling) ++ hearing)))

pub host_turns_are_lived : HostTurnsAreLived
host_turns_are_lived t old new calls looks slots turn = turn_lived t old slots turn

pub broken_turns_are_lived : BrokenTurnsAreLived
broken_turns_are_lived t old new calls looks slots turn = as_said t old slots refl turn.looks_are (broken t old slots new refl (ap (λ (h : HostValue). h.node) turn.begins) turn.calls)

-- ---- turns one after the other

looks-append : (looks later : List Look) (acts more : List Act) → AreAtLooks looks acts → AreAtLooks later more → AreAtLooks (looks ++ later) (acts ++ more)
looks-append [] later acts more none at = subst (λ (xs : List Act). AreAtLooks later (xs ++ more)) (sym none) at
looks-append (look ∷ looks) later acts more (here, rest, acts_are, now, at_rest) at =
    (here, rest ++ more, ap (λ (xs : List Act). xs ++ more) acts_are ∙ append_assoc here rest more, now, looks-append looks later rest more at_rest at)

left-append : {xs ys zs ws : List PortCall} → LeavesReceivesOut xs ys → LeavesReceivesOut zs ws → LeavesReceivesOut (xs ++ zs) (ys ++ ws)
left-append nothing back = back
left-append {zs = zs} {ws} (not_this x xs ys front) back = not_this x (xs ++ zs) (ys ++ ws) (left-append front back)
left-append {zs = zs} {ws} (this y xs ys receives front) back = this y (xs ++ zs) (ys ++ ws) receives (left-append front back)

pub hosts_live_on : HostsLiveOn
hosts_live_on t old mid new calls more looks later a b = record {
  acts = a.acts ++ b.acts;
  lives = chain-append (HostLives t.config t.server old.node.addr) (Some old.node) (Some mid.node) (Some new.node) a.acts b.acts a.lives
      (subst (λ (at : Addr). Chain (HostLives t.config t.server at) (Some mid.node) b.acts (Some new.node)) a.addr_is b.lives);
  at_looks = looks-append looks later a.acts b.acts a.at_looks b.at_looks;
  calls_are = subst (λ (cs : List PortCall). LeavesReceivesOut cs (calls ++ more)) (sym (calls-append a.acts b.acts)) (left-append a.calls_are b.calls_are);
  addr_is = b.addr_is ∙ a.addr_is;
}
