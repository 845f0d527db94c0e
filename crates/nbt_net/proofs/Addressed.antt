-- What a host does at its server's address it does at another one: where that is the server's first, its network is one of a server with one address.
use Rattle.std.proofs.Common.{◌≡◌, ◌≢◌, ℕ, suc, Bool, if◌then◌else◌, true, false, eqb, List, [], ◌∷◌, map, Option, Some, None, refl, sym, ap, subst, ◌∙◌, inl, inr, option_map}
use Rattle.std.specs.Prelude.{◌&&◌}
use Rattle.std.proofs.lemmas.Option.{none-some, same_Some}
use Rattle.std.proofs.lemmas.Bool.{cases_Bool, eq-eqb, ne_eqb, eqb-true, and_parts, false≢true}
use Rattle.nbt_name.specs.declared.addr.Addr.{Addr}
use Rattle.nbt_name.specs.Wire.{NameValue}
use Rattle.nbt_packet.specs.Message.{MessageValue}
use Rattle.nbt_lease.specs.Config.{ConfigValue}
use Rattle.nbt_node.specs.Node.{NodeValue}
use Rattle.nbt_node.specs.Moves.{Told}
use Rattle.nbt_node.specs.Answering.{sent_back}
use Rattle.nbt_node.specs.Datagrams.{same_end}
use Rattle.nbt_port.specs.declared.port.Route.{Route}
use Rattle.nbt_port.specs.PortCalls.{PortCall, nothing_came, came, receive_failed, sent, send_failed, Chain}
use Rattle.nbt_port.proofs.Chains.{chain-append}
use Rattle.nbt_client.specs.Turning.{PollsTo, polls_to, EndsPolls, has_nothing, polls_back}
use Rattle.nbt_host.specs.declared.goal.Goal.{Goal}
use Rattle.nbt_host.specs.declared.news.News.TheVariants as news
use Rattle.nbt_host.specs.declared.news.Notice.{Notice}
use Rattle.nbt_host.specs.Noticing.{news_in, name_told, denies, doubted, of_name, notice_of}
use Rattle.nbt_host.specs.Hosting.{sending_to, Requests, asks, may_not_ask, backs_off, gives_back, may_not_give_back, doubting, HostHears, hears_nothing, hears_back, hears, LosesReply, loses_reply}
use Rattle.nbt_world.specs.declared.ends.Ends.{Ends}
use Rattle.nbt_world.specs.Drift.{reading}
use Rattle.nbt_world.specs.Safety.{held_by}
use Rattle.nbt_world.specs.World.{WorldValue, addr_of}
use Rattle.nbt_net.specs.Wire.{Act, Happening, Comes, of_no_end, acts_of}
use Rattle.nbt_net.specs.Servers.{ServerEnd}
use Rattle.nbt_net.specs.Hosts as hosts
use Rattle.nbt_net.specs.Hosts.{HostActs, HostLives}
use Rattle.nbt_net.specs.Lives.{Network, NoTwoHold}
use Rattle.nbt_net.specs.Addresses.{IsServers, as_first, call_as, act_as, acts_as, LivesOn, never_lived, lives, NetworkOfSeveralAddresses, IsAsWithOne, IsAsWithSeveral}
use Rattle.nbt_net.proofs.Readdressed.{moved_node, TellsApart, sends_too, polls_too, handles_too, back_too}

-- ---- two addresses change places

same_self : (a : Addr) → same_end a a ≡ true
same_self a = rw (eq-eqb a.ip a.ip refl, eq-eqb a.port a.port refl) refl

same_addr : (a b : Addr) → same_end a b ≡ true → a ≡ b
same_addr a b e =
    let parts = and_parts (eqb a.ip b.ip) (eqb a.port b.port) e in
    λ i. record { ip = eqb-true a.ip b.ip parts.0 i; port = eqb-true a.port b.port parts.1 i }

pick : {A : Type 0} (b : Bool) (x y : A) → b ≡ true → (if b then x else y) ≡ x
pick b x y is = rw is refl

pass : {A : Type 0} (b : Bool) (x y : A) → b ≡ false → (if b then x else y) ≡ y
pass b x y is = rw is refl

module _ (first asked : Addr) where
  -- what stands in the place of the one that is asked, of the first where that is another, and of any other
  in_asked : (a : Addr) → same_end a asked ≡ true → as_first first asked a ≡ first
  in_asked a is = pick (same_end a asked) first _ is

  in_first : (a : Addr) → same_end a asked ≡ false → same_end a first ≡ true → as_first first asked a ≡ asked
  in_first a off is = pass (same_end a asked) first _ off ∙ pick (same_end a first) asked a is

  in_other : (a : Addr) → same_end a asked ≡ false → same_end a first ≡ false → as_first first asked a ≡ a
  in_other a off other = pass (same_end a asked) first _ off ∙ pass (same_end a first) asked a other

  pub asked_is_first : as_first first asked asked ≡ first
  asked_is_first = in_asked asked (same_self asked)

  pub first_is_asked : as_first first asked first ≡ asked
  first_is_asked = elim (cases_Bool (same_end first asked)) [
    | inl one ↦ in_asked first one ∙ same_addr first asked one
    | inr two ↦ in_first first two (same_self first)
  ]

  twice : (a : Addr) → as_first first asked (as_first first asked a) ≡ a
  twice a = elim (cases_Bool (same_end a asked)) [
    | inl is ↦ ap (as_first first asked) (in_asked a is) ∙ first_is_asked ∙ sym (same_addr a asked is)
    | inr off ↦ elim (cases_Bool (same_end a first)) [
      | inl is ↦ ap (as_first first asked) (in_first a off is) ∙ asked_is_first ∙ sym (same_addr a first is)
      | inr other ↦ ap (as_first first asked) (in_other a off other) ∙ in_other a off other
    ]
  ]

  pub tells_apart : TellsApart (as_first first asked)
  tells_apart a b = elim (cases_Bool (same_end a b)) [
    | inl same ↦ ap (λ (x : Addr). same_end (as_first first asked a) (as_first first asked x)) (sym (same_addr a b same)) ∙ same_self (as_first first asked a) ∙ sym same
    | inr apart ↦ elim (cases_Bool (same_end (as_first first asked a) (as_first first asked b))) [
      | inl met ↦ absurd (false≢true (sym apart ∙ ap (same_end a) (sym (twice b) ∙ ap (as_first first asked) (sym (same_addr (as_first first asked a) (as_first first asked b) met)) ∙ twice a) ∙ same_self a))
      | inr off ↦ off ∙ sym apart
    ]
  ]

-- What may come from the first may come from each, and all but the two are as they are.
pub comes_from_each : (wire : WorldValue) (asked from to : Addr) (octets : List ℕ) → IsServers wire.ends asked → IsServers wire.ends from → Comes wire wire.ends.server_addr to octets → Comes wire (as_first wire.ends.server_addr asked from) to octets
comes_from_each wire asked from to octets servers own comes = elim (cases_Bool (same_end from asked)) [
  | inl is ↦ subst (λ (a : Addr). Comes wire a to octets) (sym (in_asked first asked from is)) comes
  | inr off ↦ elim (cases_Bool (same_end from first)) [
    | inl is ↦ subst (λ (a : Addr). Comes wire a to octets) (sym (in_first first asked from off is)) (from_own asked servers)
    | inr other ↦ subst (λ (a : Addr). Comes wire a to octets) (sym (in_other first asked from off other)) (from_own from own)
  ]
]
  where
    first : Addr
    first = wire.ends.server_addr

    from_own : (a : Addr) → IsServers wire.ends a → Comes wire a to octets
    from_own a (inl is) = subst (λ (x : Addr). Comes wire x to octets) (sym is) comes
    from_own a (inr none) = of_no_end none

apart : (a b : Addr) → a.ip ≢ b.ip → same_end a b ≡ false
apart a b ne = rw (ne_eqb a.ip b.ip ne) refl

pub rest_stay : (first asked addr : Addr) → addr.ip ≢ asked.ip → addr.ip ≢ first.ip → as_first first asked addr ≡ addr
rest_stay first asked addr ne differs = in_other first asked addr (apart addr asked ne) (apart addr first differs)

-- acts, read twice
module _ (first asked : Addr) where
  call_twice : (call : PortCall) → call_as (as_first first asked) (call_as (as_first first asked) call) ≡ call
  call_twice nothing_came = refl
  call_twice (came from octets) = ap (λ (peer : Addr). came (record from { peer = peer }) octets) (twice first asked from.peer)
  call_twice receive_failed = refl
  call_twice (sent to octets) = ap (λ (peer : Addr). sent (record to { peer = peer }) octets) (twice first asked to.peer)
  call_twice (send_failed to octets) = ap (λ (peer : Addr). send_failed (record to { peer = peer }) octets) (twice first asked to.peer)

  calls_twice : (calls : List PortCall) → map (call_as (as_first first asked)) (map (call_as (as_first first asked)) calls) ≡ calls
  calls_twice [] = refl
  calls_twice (call ∷ calls) = let one = call_twice call in let more = calls_twice calls in λ j. one j ∷ more j

  acts_twice : (acts : List Act) → acts_as (as_first first asked) (acts_as (as_first first asked) acts) ≡ acts
  acts_twice [] = refl
  acts_twice (act ∷ acts) = let calls_are = calls_twice act.calls in let more = acts_twice acts in λ j. record act { calls = calls_are j } ∷ more j

-- ---- a host at other addresses

module _ (reads : Addr → Addr) (same : TellsApart reads) where
  abbrev There : NodeValue → NodeValue
  There node = moved_node reads node

  abbrev route_as : Route → Route
  route_as route = record route { peer = reads route.peer }

  sending_too : (to : Route) (said : Option (List ℕ)) → sending_to (route_as to) said ≡ map (call_as reads) (sending_to to said)
  sending_too to None = refl
  sending_too to (Some octets) = refl

  requests_too : {now : ℕ} {old new : NodeValue} {goal : Goal} {request : Option (List ℕ)} → Requests now old goal request new → Requests now (There old) goal request (There new)
  requests_too {now} {old} (asks octets new wanted may does) = asks octets (There new) wanted may (record { may = does.may; sends = sends_too reads same old now does.sends })
  requests_too (may_not_ask fault wanted may refused) = may_not_ask fault wanted may refused
  requests_too (backs_off wanted may) = backs_off wanted may
  requests_too {now} {old} (gives_back octets new unwanted may does) = gives_back octets (There new) unwanted may (sends_too reads same old now does)
  requests_too (may_not_give_back fault unwanted refused) = may_not_give_back fault unwanted refused

  polls_to_too : {now : ℕ} {old new : NodeValue} {call : PortCall} → PollsTo now old call new → PollsTo now (There old) (call_as reads call) (There new)
  polls_to_too {now} {old} (polls_to to octets new does) = polls_to (reads to) octets (There new) (polls_too reads same old now does)

  ends_polls_too : {now : ℕ} {old new : NodeValue} → EndsPolls now old new → EndsPolls now (There old) (There new)
  ends_polls_too {now} {old} (has_nothing octets new does) = has_nothing octets (There new) (polls_too reads same old now does)
  ends_polls_too (polls_back early) = polls_back early

  doubted_too : (server from : Addr) (message : Option MessageValue) (told : Told) → doubted (reads server) (reads from) message told ≡ doubted server from message told
  doubted_too server from message told = ap (λ (b : Bool). if b && denies message told then name_told message else None) (same from server)

  notice_too : (server from : Addr) (message : Option MessageValue) (told : Told) → notice_of (reads server) (reads from) message told ≡ notice_of server from message told
  notice_too server from message told = ap (λ (b : Bool). of_name (name_told message) (if b && denies message told then Some news.Doubted else news_in message told)) (same from server)

  doubting_too : (node : NodeValue) (name : Option NameValue) → doubting (There node) name ≡ There (doubting node name)
  doubting_too node None = refl
  doubting_too node (Some name) = refl

  hears_too : {server : Addr} {now : ℕ} {old new : NodeValue} {calls : List PortCall} {notice : Option Notice} → HostHears server now old calls notice new → HostHears (reads server) now (There old) (map (call_as reads) calls) notice (There new)
  hears_too hears_nothing = hears_nothing
  hears_too (hears_back from octets early) = hears_back (route_as from) octets early
  hears_too {server} {now} {old} (hears from octets reply message told mid handles says) =
      let calls_are : came (route_as from) octets ∷ sending_to (route_as from) (sent_back (There mid) now message told reply) ≡ came (route_as from) octets ∷ map (call_as reads) (sending_to from (sent_back mid now message told reply))
      = ap (λ (said : Option (List ℕ)). came (route_as from) octets ∷ sending_to (route_as from) said) (back_too reads same mid now message told reply) ∙ ap (λ (cs : List PortCall). came (route_as from) octets ∷ cs) (sending_too from (sent_back mid now message told reply)) in
      let new_is : doubting (There mid) (doubted (reads server) (reads from.peer) message told) ≡ There (doubting mid (doubted server from.peer message told))
      = ap (doubting (There mid)) (doubted_too server from.peer message told) ∙ doubting_too mid (doubted server from.peer message told) in
      subst (λ (cs : List PortCall). HostHears (reads server) now (There old) cs (notice_of server from.peer message told) (There (doubting mid (doubted server from.peer message told)))) calls_are
      (subst (λ (n : NodeValue). HostHears (reads server) now (There old) (came (route_as from) octets ∷ sending_to (route_as from) (sent_back (There mid) now message told reply)) (notice_of server from.peer message told) n) new_is
      (subst (λ (notice : Option Notice). HostHears (reads server) now (There old) (came (route_as from) octets ∷ sending_to (route_as from) (sent_back (There mid) now message told reply)) notice (doubting (There mid) (doubted (reads server) (reads from.peer) message told))) (notice_too server from.peer message told)
      (hears (route_as from) octets reply message told (There mid) (handles_too reads same old now handles) says)))

  loses_too : {now : ℕ} {old new : NodeValue} {calls : List PortCall} → LosesReply now old calls new → LosesReply now (There old) (map (call_as reads) calls) (There new)
  loses_too {now} {old} (loses_reply from octets reply lost message told new handles says is) =
      loses_reply (route_as from) octets reply lost message told (There new) (handles_too reads same old now handles) says (back_too reads same new now message told reply ∙ is)

  does_too : {server : Addr} {now : ℕ} {old new : NodeValue} {calls : List PortCall} → HostActs server now old calls new → HostActs (reads server) now (There old) (map (call_as reads) calls) (There new)
  does_too {server} {now} {old} (hosts.requests goal request new does) =
      subst (λ (cs : List PortCall). HostActs (reads server) now (There old) cs (There new)) (sending_too (record { peer = server; local = None }) request) (hosts.requests goal request (There new) (requests_too does))
  does_too (hosts.loses_request goal octets new does) = hosts.loses_request goal octets (There new) (requests_too does)
  does_too (hosts.polls call new does) = hosts.polls (call_as reads call) (There new) (polls_to_too does)
  does_too {now = now} {old} (hosts.loses_poll to octets new does) = hosts.loses_poll (reads to) octets (There new) (polls_too reads same old now does)
  does_too (hosts.ends_polls new does) = hosts.ends_polls (There new) (ends_polls_too does)
  does_too (hosts.hears calls notice new does) = hosts.hears (map (call_as reads) calls) notice (There new) (hears_too does)
  does_too (hosts.loses_reply calls new does) = hosts.loses_reply (map (call_as reads) calls) (There new) (loses_too does)
  does_too hosts.cannot_hear = hosts.cannot_hear

  module _ (config : ConfigValue) (server at : Addr) where
    lives_too : {old new : Option NodeValue} {act : Act} → HostLives config server at old act new → HostLives config (reads server) at (option_map There old) (act_as reads act) (option_map There new)
    lives_too (hosts.starts now first_id) = hosts.starts now first_id
    lives_too (hosts.does now calls old new does) = hosts.does now (map (call_as reads) calls) (There old) (There new) (does_too does)
    lives_too (hosts.crashes now node) = hosts.crashes now (There node)

    all_too : (acts : List Act) (old new : Option NodeValue) → Chain (HostLives config server at) old acts new → Chain (HostLives config (reads server) at) (option_map There old) (acts_as reads acts) (option_map There new)
    all_too [] old new chain = ap (option_map There) chain
    all_too (act ∷ acts) old new chain = (option_map There chain.0, lives_too chain.1, all_too acts chain.0 new chain.2)

-- ---- a host whose server is at another address of its own

holds_as : (reads : Addr → Addr) (node : Option NodeValue) (name : NameValue) (now : ℕ) → held_by node name now ≡ held_by (option_map (moved_node reads) node) name now
holds_as reads None name now = refl
holds_as reads (Some node) name now = refl

module _ (config : ConfigValue) (at : Addr) where
  -- What is at one address is at the other as the wire has it.
  lives_at : (first asked server other : Addr) (acts : List Act) (node : Option NodeValue) → as_first first asked server ≡ other → Chain (HostLives config server at) None acts node
      → Chain (HostLives config other at) None (acts_as (as_first first asked) acts) (option_map (moved_node (as_first first asked)) node)
  lives_at first asked server other acts node is lived =
      subst (λ (addr : Addr). Chain (HostLives config addr at) None (acts_as (as_first first asked) acts) (option_map (moved_node (as_first first asked)) node)) is (all_too (as_first first asked) (tells_apart first asked) config server at acts None node lived)

  -- what such lives are with the first address alone
  record WithFirst (first : Addr) (acts : List Act) (node : Option NodeValue) : Type 0 where
    pub there : Option NodeValue
    pub lived : Chain (HostLives config first at) None acts there
    pub down : node ≡ None → there ≡ None
    pub holds : (name : NameValue) (now : ℕ) → held_by node name now ≡ held_by there name now

  with_first : {ends : Ends} {acts : List Act} {node : Option NodeValue} → LivesOn config ends at acts node → WithFirst ends.server_addr acts node
  with_first never_lived = record { there = None; lived = refl; down = λ e. refl; holds = λ name now. refl }
  with_first {ends} (lives asked before acts node servers earlier lived) =
      let was = with_first earlier in
      let first = ends.server_addr in
      let reads : Addr → Addr = as_first first asked in
      record {
        there = option_map (moved_node reads) node;
        lived = chain-append (HostLives config first at) None None (option_map (moved_node reads) node) before (acts_as reads acts) (subst (λ (x : Option NodeValue). Chain (HostLives config first at) None before x) (was.down refl) was.lived)
            (lives_at first asked asked first acts node (asked_is_first first asked) lived);
        down = λ is. ap (option_map (moved_node reads)) is;
        holds = holds_as reads node;
      }

-- ---- a network

-- a host as one that asks the first address
record AtFirst (config : ConfigValue) (ends : Ends) (index : ℕ) (acts : List Act) (node : Option NodeValue) : Type 0 where
  pub there : Option NodeValue
  pub lived : (at : Addr) → addr_of ends (suc index) ≡ Some at → Chain (HostLives config ends.server_addr at) None acts there
  pub holds : (name : NameValue) (now : ℕ) → held_by node name now ≡ held_by there name now

module _ {config : ConfigValue} {addrs : List Addr} {happenings : List Happening} {now : WorldValue} {server : ServerEnd} {hosts : ℕ → Option NodeValue} where
  module _ (net : NetworkOfSeveralAddresses config addrs happenings now server hosts) where
    at_first : (index : ℕ) (addr : Option Addr) → addr_of net.first.ends (suc index) ≡ addr → AtFirst config net.first.ends index (acts_of (suc index) happenings) (hosts index)
    at_first index None off = record { there = hosts index; lived = λ at there. absurd (none-some at (sym off ∙ there)); holds = λ name now. refl }
    at_first index (Some at) here =
        let one = with_first config at (net.hosts_live index at here) in
        record {
          there = one.there;
          lived = λ to there. subst (λ (addr : Addr). Chain (HostLives config net.first.ends.server_addr addr) None (acts_of (suc index) happenings) one.there) (same_Some at to (sym here ∙ there)) one.lived;
          holds = one.holds;
        }

    pub as_with_one : IsAsWithOne config addrs happenings now server hosts
    as_with_one = record {
      others = λ index. (at_first index (addr_of net.first.ends (suc index)) refl).there;
      net = record {
        first = net.first;
        fresh = net.fresh;
        wires = net.wires;
        goes = net.goes;
        server_lives = net.server_lives;
        hosts_live = λ index. (at_first index (addr_of net.first.ends (suc index)) refl).lived;
      };
      hold_same = λ index name. (at_first index (addr_of net.first.ends (suc index)) refl).holds name (reading now.now (suc index));
    }

  -- where no two hold in the one network, no two do in the other
  pub none_hold : (one : IsAsWithOne config addrs happenings now server hosts) → NoTwoHold now one.others → NoTwoHold now hosts
  none_hold one safe name i j at to k l ne there here p q = safe name i j at to k l ne there here (sym (one.hold_same i name) ∙ p) (sym (one.hold_same j name) ∙ q)

  module _ (net : Network config addrs happenings now server hosts) (asked : ℕ → Addr) (servers : (index : ℕ) → IsServers net.first.ends (asked index)) where
    abbrev reads : ℕ → Addr → Addr
    reads index = as_first net.first.ends.server_addr (asked index)

    asks_it : (index : ℕ) (at : Addr) → addr_of net.first.ends (suc index) ≡ Some at
        → Chain (HostLives config (asked index) at) None (acts_as (reads index) (acts_of (suc index) happenings)) (option_map (moved_node (reads index)) (hosts index))
    asks_it index at there =
        let first = net.first.ends.server_addr in
        lives_at config at first (asked index) first (asked index) (acts_of (suc index) happenings) (hosts index) (first_is_asked first (asked index)) (net.hosts_live index at there)

    pub as_with_several : IsAsWithSeveral config addrs asked happenings now server hosts
    as_with_several = record {
      others = λ index. option_map (moved_node (reads index)) (hosts index);
      net = record {
        first = net.first;
        fresh = net.fresh;
        wires = net.wires;
        goes = net.goes;
        server_lives = net.server_lives;
        hosts_live = λ index at there.
            let own = acts_as (reads index) (acts_of (suc index) happenings) in
            let node = option_map (moved_node (reads index)) (hosts index) in
            subst (λ (acts : List Act). LivesOn config net.first.ends at acts node) (acts_twice net.first.ends.server_addr (asked index) (acts_of (suc index) happenings))
            (lives (asked index) [] own node (servers index) never_lived (asks_it index at there));
      };
      asks = λ index at there. (acts_as (reads index) (acts_of (suc index) happenings), asks_it index at there);
      hold_same = λ index name. holds_as (reads index) (hosts index) name (reading now.now (suc index));
    }
