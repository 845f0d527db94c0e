-- A host's turn is a part of its life with its devices: the looks at its clocks, what it sends after them, and what it hears before them.
use Rattle.std.proofs.Common.{◌≡◌, ◌⊎◌, ℕ, List, [], ◌∷◌, ◌++◌, map, Contains, Option, Some, None, Ok, refl, sym, ap, subst, ◌∙◌, inl, inr, arith}
use Rattle.std.specs.List.{AllByRecursion}
use Rattle.std.proofs.lemmas.List.Elements.{Contains-append_cases, Contains-append_left, Contains-append_right, Contains-push_cases}
use Rattle.nbt_name.specs.declared.addr.Addr.{Addr}
use Rattle.nbt_lease.specs.Config.{ConfigValue}
use Rattle.nbt_node.specs.Answering.{sent_back}
use Rattle.nbt_node.specs.Node.{NodeValue}
use Rattle.nbt_port.specs.declared.port.Route.{Route}
use Rattle.nbt_port.specs.Memory.{came_in, to as datagram_to}
use Rattle.nbt_port.specs.PortCalls.{PortCall, nothing_came, came, receive_failed, sent, send_failed, receiving, Chain, route_to}
use Rattle.nbt_client.specs.Turning.{PollsTo, polls_to, PollsAll, BreaksPolls, at_send}
use Rattle.nbt_store.specs.Calls.{StoreCall}
use Rattle.nbt_serve.specs.Devices.{on_port}
use Rattle.nbt_serve.specs.Runs.{stored_in}
use Rattle.nbt_host.specs.declared.goal.Goal.{Goal}
use Rattle.nbt_host.specs.declared.news.Notice.{Notice}
use Rattle.nbt_host.specs.declared.watching.Look.{Look}
use Rattle.nbt_host.specs.Hosting.{sending_to, RequestsAll, of_none, of_next, BreaksRequests, at_request, HostHears, hears_nothing, hears_back, hears, LosesReply, loses_reply}
use Rattle.nbt_net.specs.Wire.{Act}
use Rattle.nbt_net.specs.Hosts.{HostLives}
use Rattle.nbt_net.specs.Turns.{calls_in}
use Rattle.nbt_net.specs.Devices.{Call, of_port, reads, Story, going_on, AreAt, IsOfAnAct, AreActs, is_quiet, acts_at, acts_on, IsQuiet, MachineDoes, StoreDoes, NoStore}
use Rattle.nbt_net.specs.Hosting.{TellsOrLooks, host_machine}
use Rattle.nbt_net.proofs.Ends.{nothing_at}
use Rattle.nbt_net.proofs.HostTurns.{Does}
use Rattle.nbt_net.proofs.Ordering.{ports_in, read_in, kept_in, put_in_order, sends_in, calls_of, ports_both, read_both, kept_both}
use Rattle.nbt_net.proofs.Parts.{IsInOrder, all_in_order, Always, Part, just_acted}

-- ---- lists

pub all_at : {A : Type 0} (P : A → Type 0) (xs : List A) → AllByRecursion P xs → (x : A) → Contains xs x → P x
all_at P [] all x there = absurd (nothing_at x there)
all_at P (y ∷ xs) all x there = elim (Contains-append_cases (y ∷ []) xs x there) [
  | inl first ↦ elim (Contains-push_cases [] y x first) [ inl none ↦ absurd (nothing_at x none) | inr same ↦ subst P same all.0 ]
  | inr then ↦ all_at P xs all.1 x then
]

-- the act of a call
pub act_with : (acts : List Act) (call : PortCall) → Contains (calls_in acts) call → (act : Act) × Contains acts act × Contains act.calls call
act_with [] call there = absurd (nothing_at call there)
act_with (act ∷ acts) call there = elim (Contains-append_cases act.calls (calls_in acts) call there) [
  | inl first ↦ (act, Contains-append_left (act ∷ []) acts act (0, omega arith, refl), first)
  | inr then ↦ let later = act_with acts call then in (later.0, Contains-append_right (act ∷ []) acts later.0 later.1, later.2)
]

pub none_came : (xs ys : List PortCall) → came_in xs ≡ [] → came_in ys ≡ [] → came_in (xs ++ ys) ≡ []
none_came [] ys front back = back
none_came (nothing_came ∷ xs) ys front back = none_came xs ys front back
none_came (came from octets ∷ xs) ys front back = absurd cc
none_came (receive_failed ∷ xs) ys front back = none_came xs ys front back
none_came (sent to octets ∷ xs) ys front back = none_came xs ys front back
none_came (send_failed to octets ∷ xs) ys front back = none_came xs ys front back

one_came : (from : Route) (octets : List ℕ) (reply : Option (List ℕ)) → came_in (came from octets ∷ sending_to from reply) ≡ datagram_to from octets ∷ []
one_came from octets None = refl
one_came from octets (Some reply) = refl

sends_ports : (calls : List PortCall) → sends_in (map on_port calls) ≡ calls
sends_ports [] = refl
sends_ports (call ∷ calls) = ap (λ (rest : List PortCall). call ∷ rest) (sends_ports calls)

no_stores : (calls : List PortCall) → stored_in (map on_port calls) ≡ []
no_stores [] = refl
no_stores (call ∷ calls) = no_stores calls

-- ---- what a turn sends at its first look

module _ {server : Addr} {now : ℕ} where
  pub asked_quietly : {old new : NodeValue} {goals : List Goal} {calls : List PortCall} → RequestsAll server now old goals calls new → came_in calls ≡ []
  asked_quietly of_none = refl
  asked_quietly (of_next goals goal calls None mid new before last) = none_came calls [] (asked_quietly before) refl
  asked_quietly (of_next goals goal calls (Some octets) mid new before last) = none_came calls (sent (route_to server) octets ∷ []) (asked_quietly before) refl

  pub broken_quietly : {old new : NodeValue} {goals : List Goal} {calls : List PortCall} → BreaksRequests server now old goals calls new → came_in calls ≡ []
  broken_quietly (at_request goals rest goal calls octets mid new before last) = none_came calls (send_failed (route_to server) octets ∷ []) (asked_quietly before) refl

polled_one : {now : ℕ} {old new : NodeValue} {call : PortCall} → PollsTo now old call new → came_in (call ∷ []) ≡ []
polled_one (polls_to to octets new does) = refl

polled_so : (now : ℕ) (calls : List PortCall) (old new : NodeValue) → Chain (PollsTo now) old calls new → came_in calls ≡ []
polled_so now [] old new chain = refl
polled_so now (call ∷ calls) old new chain = none_came (call ∷ []) calls (polled_one chain.1) (polled_so now calls chain.0 new chain.2)

pub polled_quietly : {now : ℕ} {old new : NodeValue} {calls : List PortCall} → PollsAll now old calls new → came_in calls ≡ []
polled_quietly {now} {old} {calls = calls} p = polled_so now calls old p.mid p.polls

pub polls_broken_quietly : {now : ℕ} {old new : NodeValue} {calls : List PortCall} → BreaksPolls now old calls new → came_in calls ≡ []
polls_broken_quietly {now} {old} (at_send polling mid new to octets chain poll) = none_came polling (send_failed (route_to to) octets ∷ []) (polled_so now polling old mid chain) refl

-- ---- acts at one look

-- what acts at a look send, they send before the clock is read again
sends_now : (story : Story) (now : ℕ) (acts : List Act) → AreAt now acts → (to : Route) (octets : List ℕ) → Contains (calls_in acts) (sent to octets) ⊎ Contains (calls_in acts) (send_failed to octets) → IsOfAnAct 0 (going_on now acts story) to octets
sends_now story now acts at to octets (inl there) =
    let own = act_with acts (sent to octets) there in
    let here = all_at (λ (act : Act). act.now ≡ now) acts at own.0 own.1 in
    record { act = own.0; acted = just_acted now acts story own.0 own.1; sends = inl own.2; in_time = omega (arith, here) }
sends_now story now acts at to octets (inr there) =
    let own = act_with acts (send_failed to octets) there in
    let here = all_at (λ (act : Act). act.now ≡ now) acts at own.0 own.1 in
    record { act = own.0; acted = just_acted now acts story own.0 own.1; sends = inr own.2; in_time = omega (arith, here) }

all_sent : (story : Story) (now : ℕ) (acts : List Act) → AreAt now acts → (calls : List PortCall) → ((call : PortCall) → Contains calls call → Contains (calls_in acts) call) → AllByRecursion (IsInOrder 0 (going_on now acts story)) (map on_port calls)
all_sent story now acts at [] own = tt
all_sent story now acts at (call ∷ calls) own = (one call (own call (0, omega arith, refl)), all_sent story now acts at calls (λ c there. own c (Contains-append_right (call ∷ []) calls c there)))
  where
    one : (call : PortCall) → Contains (calls_in acts) call → IsInOrder 0 (going_on now acts story) (on_port call)
    one nothing_came there = tt
    one (came from octets) there = tt
    one receive_failed there = tt
    one (sent to octets) there = sends_now story now acts at to octets (inl there)
    one (send_failed to octets) there = sends_now story now acts at to octets (inr there)

-- ---- parts

module _ {P K : Type 0} (does : P → PortCall → P → Type 0) (tells : K → ℕ → K → Type 0) (looks : K → Look → K → Type 0) (config : ConfigValue) (server at : Addr) where
  abbrev pub HostPart : Option NodeValue → P → K → Option NodeValue → P → K → Type 0
  HostPart before old_port old_watch after port watch =
      Part (HostLives config server at) 0 does (TellsOrLooks tells looks) NoStore Always before (host_machine old_port old_watch) Always after (host_machine port watch)

  module _ (old_port port : P) (old_watch watch : K) (look : Look) (looked : looks old_watch look watch) (old new : NodeValue) where
    -- the calls of a look, some of which may stand before it
    read_once : (calls : List Call) → read_in calls ≡ look.at ∷ [] → kept_in calls ≡ [] → (own : List PortCall) → ports_in calls ≡ own → Chain does old_port own port
        → Chain (MachineDoes does (TellsOrLooks tells looks) NoStore) (host_machine old_port old_watch) calls (host_machine port watch)
    read_once calls times stores own ports did =
        put_in_order does (TellsOrLooks tells looks) NoStore calls (host_machine old_port old_watch) (host_machine port watch)
        (subst (λ (cs : List PortCall). Chain does old_port cs port) (sym ports) did)
        (subst (λ (ns : List ℕ). Chain (TellsOrLooks tells looks) old_watch ns watch) (sym times) (watch, inr (look, looked, refl), refl))
        (subst (λ (cs : List StoreCall). Chain (StoreDoes NoStore) None cs None) (sym stores) refl)

    -- what a host does at one look, before which nothing came
    pub one_look : (xs : List PortCall) → (d : Does config server at look.at old xs new) → came_in xs ≡ [] → Chain does old_port xs port → HostPart (Some old) old_port old_watch (Some new) port watch
    one_look xs d quiet did = record {
      calls = reads look.at ∷ calls_of (map on_port xs);
      acts = d.acts;
      did = read_once (reads look.at ∷ calls_of (map on_port xs)) (ap (λ (ns : List ℕ). look.at ∷ ns) (read_both (map on_port xs))) (kept_both (map on_port xs) ∙ no_stores xs) xs (ports_both (map on_port xs) ∙ sends_ports xs) did;
      lived = d.lives;
      goes = λ story known. (
        going_on look.at d.acts story,
        refl,
        acts_at story (going_on look.at d.acts story) look.at d.acts (calls_of (map on_port xs)) d.at_now (ap came_in d.calls_are ∙ quiet) (all_in_order (map on_port xs) (all_sent story look.at d.acts d.at_now xs (λ call there. subst (λ (cs : List PortCall). Contains cs call) (sym d.calls_are) there))),
        tt,
      );
    }

    -- what it does with what a receive was, at a look right after it
    pub heard_look : (hearing : PortCall) (ys zs : List PortCall) → (d : Does config server at look.at old zs new) → ((call : PortCall) → Contains ys call → Contains zs call)
        → ((story after : Story) (calls : List Call) → AreActs 0 (going_on look.at d.acts story) calls after → AreActs 0 story (of_port hearing ∷ reads look.at ∷ calls) after)
        → Chain does old_port (hearing ∷ ys) port → HostPart (Some old) old_port old_watch (Some new) port watch
    heard_look hearing ys zs d own front did = record {
      calls = of_port hearing ∷ reads look.at ∷ calls_of (map on_port ys);
      acts = d.acts;
      did = read_once (of_port hearing ∷ reads look.at ∷ calls_of (map on_port ys)) (ap (λ (ns : List ℕ). look.at ∷ ns) (read_both (map on_port ys))) (kept_both (map on_port ys) ∙ no_stores ys) (hearing ∷ ys)
          (ap (λ (cs : List PortCall). hearing ∷ cs) (ports_both (map on_port ys) ∙ sends_ports ys)) did;
      lived = d.lives;
      goes = λ story known. (
        going_on look.at d.acts story,
        refl,
        front story (going_on look.at d.acts story) (calls_of (map on_port ys)) (all_in_order (map on_port ys) (all_sent story look.at d.acts d.at_now ys (λ call there. subst (λ (cs : List PortCall). Contains cs call) (sym d.calls_are) (own call there)))),
        tt,
      );
    }

    -- nothing came, or nothing is made of what came
    nothing_made : (hearing : PortCall) → IsQuiet (of_port hearing) → (d : Does config server at look.at old [] new) → Chain does old_port (hearing ∷ []) port → HostPart (Some old) old_port old_watch (Some new) port watch
    nothing_made hearing quiet d did =
        heard_look hearing [] [] d (λ call there. there)
        (λ story after calls rest. is_quiet story after (of_port hearing) (reads look.at ∷ calls) quiet (acts_at story after look.at d.acts calls d.at_now (ap came_in d.calls_are) rest)) did

    none_heard : (d : Does config server at look.at old (nothing_came ∷ []) new) → Chain does old_port (nothing_came ∷ []) port → HostPart (Some old) old_port old_watch (Some new) port watch
    none_heard d did =
        heard_look nothing_came [] (nothing_came ∷ []) d (λ call there. absurd (nothing_at call there))
        (λ story after calls rest. is_quiet story after (of_port nothing_came) (reads look.at ∷ calls) tt (acts_at story after look.at d.acts calls d.at_now (ap came_in d.calls_are) rest)) did

    some_heard : (from : Route) (octets : List ℕ) (ys : List PortCall) → came_in (came from octets ∷ ys) ≡ datagram_to from octets ∷ [] → (d : Does config server at look.at old (came from octets ∷ ys) new) → Chain does old_port (came from octets ∷ ys) port
        → HostPart (Some old) old_port old_watch (Some new) port watch
    some_heard from octets ys one d did =
        heard_look (came from octets) ys (came from octets ∷ ys) d (λ call there. Contains-append_right (came from octets ∷ []) ys call there)
        (λ story after calls rest. acts_on story after from octets look.at d.acts calls d.at_now (ap came_in d.calls_are ∙ one) rest) did

    pub slept_through : (found : Option Route) (octets : List ℕ) → (d : Does config server at look.at old [] new) → Chain does old_port (receiving (Ok found) octets ∷ []) port → HostPart (Some old) old_port old_watch (Some new) port watch
    slept_through None octets d did = nothing_made nothing_came tt d did
    slept_through (Some from) octets d did = nothing_made (came from octets) tt d did

  module _ (old_port port : P) (old_watch watch : K) (look : Look) (looked : looks old_watch look watch) where
    pub all_heard : {old new : NodeValue} {hearing : List PortCall} {notice : Option Notice} → HostHears server look.at old hearing notice new → Does config server at look.at old hearing new → Chain does old_port hearing port → HostPart (Some old) old_port old_watch (Some new) port watch
    all_heard {old} hears_nothing d did = none_heard old_port port old_watch watch look looked old old d did
    all_heard {old} (hears_back from octets early) d did = some_heard old_port port old_watch watch look looked old old from octets [] refl d did
    all_heard {old} {new} (hears from octets reply message told mid handles says) d did =
        some_heard old_port port old_watch watch look looked old new from octets (sending_to from (sent_back mid look.at message told reply)) (one_came from octets (sent_back mid look.at message told reply)) d did

    pub reply_lost : {old new : NodeValue} {hearing : List PortCall} → LosesReply look.at old hearing new → Does config server at look.at old hearing new → Chain does old_port hearing port → HostPart (Some old) old_port old_watch (Some new) port watch
    reply_lost {old} {new} (loses_reply from octets reply lost message told _ handles says is) d did = some_heard old_port port old_watch watch look looked old new from octets (send_failed from lost ∷ []) refl d did
