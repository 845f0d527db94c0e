-- A network of programs that live their own lives is a run of a world, so it is as safe.
use Rattle.std.proofs.Common.{◌≡◌, ◌≢◌, ℕ, zero, suc, pred, if◌then◌else◌, List, [], ◌∷◌, ◌++◌, Option, Some, refl, sym, ap, subst, ◌∙◌, inl, inr}
use Rattle.std.specs.Prelude.{◌⊎◌, slice_index, IsTrue}
use Rattle.std.proofs.lemmas.Bool.{cases_eq, eq-eqb, ne_eqb}
use Rattle.std.proofs.lemmas.Option.{same_Some}
use Rattle.nbt_name.specs.declared.addr.Addr.{Addr}
use Rattle.nbt_name.specs.declared.addr.Kind.{Kind}
use Rattle.nbt_name.specs.Wire.{NameValue}
use Rattle.nbt_lease.specs.Config.{ConfigValue}
use Rattle.nbt_server.specs.Serving.{ServerValue}
use Rattle.nbt_server.specs.Calls.{limited}
use Rattle.nbt_node.specs.Node.{NodeValue}
use Rattle.nbt_node.specs.Calls.{refreshing_soon}
use Rattle.nbt_port.specs.PortCalls.{PortCall, nothing_came, came, receive_failed, sent, send_failed, Chain}
use Rattle.nbt_world.specs.declared.ends.Ends.{Ends}
use Rattle.nbt_world.specs.declared.event.Event.TheVariants as event
use Rattle.nbt_world.specs.declared.event.Outcome.TheVariants as outcome
use Rattle.nbt_world.specs.declared.network.Datagram.{Datagram}
use Rattle.nbt_world.specs.Drift.{reading}
use Rattle.nbt_world.specs.World.{WorldValue, addr_of, IsEnd, node_of, IsOfEnd, with_server, with_node, AreAddrs, IsFresh}
use Rattle.nbt_world.specs.Step.{Advances, advances, SpellMove, TakenValue, EndTakes, after_taking}
use Rattle.nbt_world.specs.Safety.{held_by, IsSafe}
use Rattle.nbt_world.specs.Inner.Handing.{Origin}
use Rattle.nbt_world.specs.Inner.Kept.{Invariant}
use Rattle.nbt_world.proofs.Keeping.{addr_with, node_with_other, node_with_here, server_addr_with}
use Rattle.nbt_net.specs.Wire.{Act, Happening, clocks_go_on, acts, acts_of, sent_by, Comes, of_an_end, of_no_end, of_another_program, AllMayCome, WireStep, time_passes, end_acts, WireRun, ends as run_ends, goes_on as run_goes_on}
use Rattle.nbt_net.specs.Servers.{ServerEnd, never_up, up_of, was_of, with_rows, ServerLives}
use Rattle.nbt_net.specs.Hosts.{HostLives}
use Rattle.nbt_net.specs.Lives.{Network, NoTwoHold, NetworkIsARun}
use Rattle.nbt_net.specs.Reaching.{Goes, by_event, by_taking, by_id, by_doubt, by_limit, by_rows, Reaches, stays, goes_on, with_end, AreSentOrMoveNone}
use Rattle.nbt_net.proofs.Ends.{once, reaches_on, same_sent, both_send}
use Rattle.nbt_net.proofs.ServerActs.{servers_act}
use Rattle.nbt_net.proofs.HostActs.{StepKept, hosts_act}

-- ---- what keeps the facts of a world

pub record WorldLaws : Type 0 where
  pub step : StepKept
  pub takes : (world : WorldValue) (number : ℕ) (from to : Addr) (octets : List ℕ) (taken : TakenValue) (ends : Ends) → Invariant world → addr_of world.ends number ≡ Some to → Origin world from to octets
      → EndTakes (reading world.now number) world.ends from octets number taken ends → Invariant (after_taking world ends to from taken)
  pub ids : (world : WorldValue) (index id : ℕ) (node : NodeValue) → Invariant world → node_of world.ends (suc index) ≡ Some node → Invariant (record world { ends = with_node world.ends (suc index) (Some (record node { next_id = id })) })
  pub refresh : (world : WorldValue) (index : ℕ) (node : NodeValue) (name : NameValue) → Invariant world → node_of world.ends (suc index) ≡ Some node
      → Invariant (record world { ends = with_node world.ends (suc index) (Some (refreshing_soon node name)) })
  pub limits : (world : WorldValue) (server : ServerValue) (rows : Option ℕ) → Invariant world → world.ends.server ≡ Some server → Invariant (record world { ends = with_server world.ends (Some (limited rows server)) world.ends.crashed })
  pub rows : (world : WorldValue) (server : ServerValue) (rows : ℕ) → Invariant world → world.ends.server ≡ Some server → Invariant (record world { ends = with_server world.ends (Some (with_rows rows server)) world.ends.crashed })

goes_kept : WorldLaws → {old new : WorldValue} → Invariant old → Goes old new → Invariant new
goes_kept l {old} kept (by_event event outcome new step) = l.step old new event outcome kept step
goes_kept l {old} kept (by_taking number from to octets taken ends at origin does) = l.takes old number from to octets taken ends kept at origin does
goes_kept l {old} kept (by_id index id node up) = l.ids old index id node kept up
goes_kept l {old} kept (by_doubt index node name up) = l.refresh old index node name kept up
goes_kept l {old} kept (by_limit rows server up) = l.limits old server rows kept up
goes_kept l {old} kept (by_rows rows server up) = l.rows old server rows kept up

pub reaches_kept : WorldLaws → {old new : WorldValue} → Invariant old → Reaches old new → Invariant new
reaches_kept l kept (stays world) = kept
reaches_kept l kept (goes_on old mid new before last) = goes_kept l (reaches_kept l kept before) last

-- ---- what an end does of all that happens

pub own_act : (number : ℕ) (act : Act) (happenings : List Happening) → acts_of number (acts number act ∷ happenings) ≡ act ∷ acts_of number happenings
own_act number act happenings = ap (λ b. (if b then act ∷ [] else []) ++ acts_of number happenings) (eq-eqb number number refl)

pub others_act : (number other : ℕ) (act : Act) (happenings : List Happening) → other ≢ number → acts_of number (acts other act ∷ happenings) ≡ acts_of number happenings
others_act number other act happenings ne = ap (λ b. (if b then act ∷ [] else []) ++ acts_of number happenings) (ne_eqb other number ne)

-- ---- a wire, and the world with what its ends know

abbrev pub filled : WorldValue → Ends → List Datagram → WorldValue
filled wire ends xs = record wire { ends = ends; sent = xs }

-- The ends have the wire's addresses, and what is on the wire was sent in the world, or moves no name.
pub record Joins (wire : WorldValue) (ends : Ends) (xs : List Datagram) : Type 0 where
  pub kept : Invariant (filled wire ends xs)
  pub addrs : (n : ℕ) → addr_of ends n ≡ addr_of wire.ends n
  pub among : AreSentOrMoveNone wire.sent xs

of_end : (a b : Ends) {ip : ℕ} → ((n : ℕ) → addr_of a n ≡ addr_of b n) → IsOfEnd a ip → IsOfEnd b ip
of_end a b same is = (is.0, is.1, sym (same is.0) ∙ is.2, is.3)

module _ {wire : WorldValue} {es : Ends} {xs : List Datagram} (joins : Joins wire es xs) where
  one_comes_too : {from to : Addr} {octets : List ℕ} → Comes wire from to octets → Comes (filled wire es xs) from to octets
  one_comes_too (of_an_end d there from_is to_is octets_are in_time) =
      elim (joins.among d there) [ inl written ↦ of_an_end d written from_is to_is octets_are in_time | inr none ↦ of_another_program (λ moves. none (subst SpellMove (sym octets_are) moves)) ]
  one_comes_too (of_no_end none) = of_no_end (λ is. none (of_end es wire.ends joins.addrs is))
  one_comes_too (of_another_program none) = of_another_program none

  comes_too : (to : Addr) (calls : List PortCall) → AllMayCome wire to calls → AllMayCome (filled wire es xs) to calls
  comes_too to [] all = tt
  comes_too to (came from octets ∷ calls) all = (one_comes_too all.0, comes_too to calls all.1)
  comes_too to (nothing_came ∷ calls) all = (tt, comes_too to calls all.1)
  comes_too to (receive_failed ∷ calls) all = (tt, comes_too to calls all.1)
  comes_too to (sent at octets ∷ calls) all = (tt, comes_too to calls all.1)
  comes_too to (send_failed at octets ∷ calls) all = (tt, comes_too to calls all.1)

  -- time passes for the ends too
  advances_too : {new : WorldValue} {ms : ℕ} {moves : ℕ → ℕ} → Advances wire ms moves new → Advances (filled wire es xs) ms moves (filled new es xs)
  advances_too {new} {ms} {moves} a = record {
    now = a.now;
    readings = λ n e. a.readings n (there n e);
    least = λ n e. a.least n (there n e);
    kept = (λ k. let x = a.kept.0 k in (x.0, λ n e. x.1 n (there n e)), λ x. a.kept.1 (x.0, λ n e. x.1 n (here n e)));
    timely = (λ k. let x = a.timely.0 k in (x.0, λ n e. x.1 n (there n e)), λ x. a.timely.1 (x.0, λ n e. x.1 n (here n e)));
    others = ap (λ (w : WorldValue). record w { ends = es; sent = xs }) a.others;
  }
    where
      there : (n : ℕ) → IsEnd es n → IsEnd wire.ends n
      there n e = (e.0, sym (joins.addrs n) ∙ e.1)

      here : (n : ℕ) → IsEnd wire.ends n → IsEnd es n
      here n e = (e.0, joins.addrs n ∙ e.1)

-- ---- the lives that are left

pub record Living (config : ConfigValue) (es : Ends) (server : ServerEnd) (happenings : List Happening) (last : ServerEnd) (hosts : ℕ → Option NodeValue) : Type 0 where
  pub server_is : es ≡ with_end es server
  pub server_lives : Chain (ServerLives config) server (acts_of 0 happenings) last
  pub hosts_live : (index : ℕ) (at : Addr) → addr_of es (suc index) ≡ Some at → Chain (HostLives config es.server_addr at) (node_of es (suc index)) (acts_of (suc index) happenings) (hosts index)

-- where they lead, from a world
pub record Led (config : ConfigValue) (old : WorldValue) (wire : WorldValue) (happenings : List Happening) (last : ServerEnd) (hosts : ℕ → Option NodeValue) : Type 0 where
  pub ends : Ends
  pub written : List Datagram
  pub server : ServerEnd
  pub joins : Joins wire ends written
  pub config_is : wire.config ≡ config
  pub living : Living config ends server happenings last hosts
  pub reached : Reaches old (filled wire ends written)

pub no_zero : {i : ℕ} → zero ≢ suc i
no_zero e = absurd cc

pub no_suc : {i : ℕ} → suc i ≢ zero
no_suc e = absurd cc

module _ (laws : WorldLaws) {config : ConfigValue} {old wire : WorldValue} {last : ServerEnd} {hosts : ℕ → Option NodeValue} where
  -- time passed
  after_time : {ms : ℕ} {readings : List ℕ} {new : WorldValue} {rest : List Happening} → Led config old wire (clocks_go_on ms readings ∷ rest) last hosts → Advances wire ms (slice_index readings) new → Led config old new rest last hosts
  after_time {ms} {readings} {new} led adv =
      let goes : Reaches (filled wire led.ends led.written) (filled new led.ends led.written) = once (by_event (event.Advance ms readings) outcome.Done _ (advances ms readings _ (advances_too led.joins adv))) in
      record {
        ends = led.ends;
        written = led.written;
        server = led.server;
        joins = record {
          kept = reaches_kept laws led.joins.kept goes;
          addrs = λ n. led.joins.addrs n ∙ ap (λ (w : WorldValue). addr_of w.ends n) (sym adv.others);
          among = subst (λ (ds : List Datagram). AreSentOrMoveNone ds led.written) (ap (λ (w : WorldValue). w.sent) (sym adv.others)) led.joins.among;
        };
        config_is = ap (λ (w : WorldValue). w.config) adv.others ∙ led.config_is;
        living = record { server_is = led.living.server_is; server_lives = led.living.server_lives; hosts_live = led.living.hosts_live };
        reached = reaches_on led.reached goes;
      }

  -- the server acted
  after_server : {at : Addr} {act : Act} {rest : List Happening} → Led config old wire (acts 0 act ∷ rest) last hosts → addr_of wire.ends 0 ≡ Some at → act.now ≡ reading wire.now 0 → AllMayCome wire at act.calls
      → Led config old (record wire { sent = wire.sent ++ sent_by at wire.now act.calls }) rest last hosts
  after_server {at} {act} {rest} led there now_is comes =
      let es = led.ends in
      let at_is : at ≡ es.server_addr = same_Some at es.server_addr (sym there ∙ sym (led.joins.addrs 0)) in
      let own = subst (λ (all : List Act). Chain (ServerLives config) led.server all last) (own_act 0 act rest) led.living.server_lives in
      let goes = servers_act (filled wire es led.written) led.server own.0 act led.living.server_is (subst (λ (c : ConfigValue). ServerLives c led.server act own.0) (sym led.config_is) own.1) now_is
      (subst (λ (a : Addr). AllMayCome (filled wire es led.written) a act.calls) at_is (comes_too led.joins at act.calls comes)) in
      record {
        ends = with_end es own.0;
        written = led.written ++ sent_by es.server_addr wire.now act.calls;
        server = own.0;
        joins = record {
          kept = reaches_kept laws led.joins.kept goes;
          addrs = λ n. server_addr_with es (up_of own.0) (was_of own.0) n ∙ led.joins.addrs n;
          among = both_send wire.sent led.written _ _ led.joins.among (subst (λ (a : Addr). AreSentOrMoveNone (sent_by at wire.now act.calls) (sent_by a wire.now act.calls)) at_is (same_sent (sent_by at wire.now act.calls)));
        };
        config_is = led.config_is;
        living = record {
          server_is = refl;
          server_lives = own.2;
          hosts_live = λ index to is. subst (λ (all : List Act). Chain (HostLives config es.server_addr to) (node_of es (suc index)) all (hosts index)) (others_act (suc index) 0 act rest no_zero) (led.living.hosts_live index to is);
        };
        reached = reaches_on led.reached goes;
      }

  -- a host acted
  after_host : {i : ℕ} {at : Addr} {act : Act} {rest : List Happening} → Led config old wire (acts (suc i) act ∷ rest) last hosts → addr_of wire.ends (suc i) ≡ Some at → act.now ≡ reading wire.now (suc i) → AllMayCome wire at act.calls
      → Led config old (record wire { sent = wire.sent ++ sent_by at wire.now act.calls }) rest last hosts
  after_host {i} {at} {act} {rest} led there now_is comes =
      record {
        ends = with_node es (suc i) own.0;
        written = led.written ++ goes.0;
        server = led.server;
        joins = record {
          kept = reaches_kept laws led.joins.kept goes.1;
          addrs = λ n. addr_with es i own.0 n ∙ led.joins.addrs n;
          among = both_send wire.sent led.written _ _ led.joins.among goes.2;
        };
        config_is = led.config_is;
        living = record {
          server_is = ap (λ (e : Ends). record (with_node es (suc i) own.0) { server = e.server; crashed = e.crashed }) led.living.server_is;
          server_lives = subst (λ (all : List Act). Chain (ServerLives config) led.server all last) (others_act 0 (suc i) act rest no_suc) led.living.server_lives;
          hosts_live = λ index to is. each index to (sym (addr_with es i own.0 (suc index)) ∙ is) (cases_eq index i);
        };
        reached = reaches_on led.reached goes.1;
      }
    where
      es : Ends
      es = led.ends

      is_there : addr_of es (suc i) ≡ Some at
      is_there = led.joins.addrs (suc i) ∙ there

      own : Chain (HostLives config es.server_addr at) (node_of es (suc i)) (act ∷ acts_of (suc i) rest) (hosts i)
      own = subst (λ (all : List Act). Chain (HostLives config es.server_addr at) (node_of es (suc i)) all (hosts i)) (own_act (suc i) act rest) (led.living.hosts_live i at is_there)

      goes : (more : List Datagram) × Reaches (filled wire es led.written) (filled wire (with_node es (suc i) own.0) (led.written ++ more)) × AreSentOrMoveNone (sent_by at wire.now act.calls) more
      goes = hosts_act laws.step (filled wire es led.written) i at (node_of es (suc i)) own.0 act led.joins.kept is_there refl
          (subst (λ (c : ConfigValue). HostLives c es.server_addr at (node_of es (suc i)) act own.0) (sym led.config_is) own.1) now_is (comes_too led.joins at act.calls comes)

      each : (index : ℕ) (to : Addr) → addr_of es (suc index) ≡ Some to → (index ≡ i) ⊎ (index ≢ i)
          → Chain (HostLives config es.server_addr to) (node_of (with_node es (suc i) own.0) (suc index)) (acts_of (suc index) rest) (hosts index)
      each index to is (inl same) =
          let here : addr_of es (suc i) ≡ Some to = subst (λ (k : ℕ). addr_of es (suc k) ≡ Some to) same is in
          let to_is : at ≡ to = same_Some at to (sym is_there ∙ here) in
          subst (λ (k : ℕ). Chain (HostLives config es.server_addr to) (node_of (with_node es (suc i) own.0) (suc k)) (acts_of (suc k) rest) (hosts k)) (sym same)
          (subst (λ (x : Option NodeValue). Chain (HostLives config es.server_addr to) x (acts_of (suc i) rest) (hosts i)) (sym (node_with_here es i own.0 at is_there))
          (subst (λ (a : Addr). Chain (HostLives config es.server_addr a) own.0 (acts_of (suc i) rest) (hosts i)) to_is own.2))
      each index to is (inr other) =
          subst (λ (x : Option NodeValue). Chain (HostLives config es.server_addr to) x (acts_of (suc index) rest) (hosts index)) (sym (node_with_other es i own.0 (suc index) (λ e. other (ap pred e))))
          (subst (λ (all : List Act). Chain (HostLives config es.server_addr to) (node_of es (suc index)) all (hosts index)) (others_act (suc index) (suc i) act rest (λ e. other (sym (ap pred e)))) (led.living.hosts_live index to is))

led_on : WorldLaws → {config : ConfigValue} {old wire new : WorldValue} {h : Happening} {rest : List Happening} {last : ServerEnd} {hosts : ℕ → Option NodeValue} → WireStep wire h new → Led config old wire (h ∷ rest) last hosts → Led config old new rest last hosts
led_on laws (time_passes ms readings new adv) led = after_time laws led adv
led_on laws (end_acts zero at act there now_is comes) led = after_server laws led there now_is comes
led_on laws (end_acts (suc i) at act there now_is comes) led = after_host laws led there now_is comes

all_led : WorldLaws → {config : ConfigValue} {old wire new : WorldValue} {last : ServerEnd} {hosts : ℕ → Option NodeValue} {happenings : List Happening} {wires : List WorldValue} → WireRun happenings wire wires new → Led config old wire happenings last hosts
    → Led config old new [] last hosts
all_led laws (run_ends wire) led = led
all_led laws (run_goes_on wire next last h rest wires step run) led = all_led laws run (led_on laws step led)

-- ---- from the beginning

pub record AllLaws : Type 0 where
  pub world : WorldLaws
  pub fresh : (config : ConfigValue) (addrs : List Addr) (world : WorldValue) → AreAddrs addrs → IsFresh config addrs world → Invariant world
  pub safe : (world : WorldValue) → Invariant world → IsTrue world.timely → IsSafe world
  pub timely : (world : WorldValue) → Invariant world → IsTrue world.kept → IsTrue world.timely

module _ (laws : AllLaws) {config : ConfigValue} {addrs : List Addr} (are : AreAddrs addrs) {happenings : List Happening} {now : WorldValue} {server : ServerEnd} {hosts : ℕ → Option NodeValue} (net : Network config addrs happenings now server hosts) where
  pub led : Led config net.first now [] server hosts
  led = all_led laws.world net.goes (record {
    ends = net.first.ends;
    written = net.first.sent;
    server = never_up;
    joins = record { kept = laws.fresh config addrs net.first are net.fresh; addrs = λ n. refl; among = same_sent net.first.sent };
    config_is = net.fresh.config_is;
    living = record {
      server_is = λ j. record net.first.ends { server = net.fresh.no_server j; crashed = net.fresh.none_crashed j };
      server_lives = net.server_lives;
      hosts_live = λ index at there. subst (λ (x : Option NodeValue). Chain (HostLives config net.first.ends.server_addr at) x (acts_of (suc index) happenings) (hosts index)) (sym (net.fresh.no_node (suc index))) (net.hosts_live index at there);
    };
    reached = stays net.first;
  })

  pub network_is_a_run : NetworkIsARun net.first now hosts
  network_is_a_run = record {
    ends = led.ends;
    sent = led.written;
    reached = led.reached;
    addrs_are = led.joins.addrs;
    nodes_are = λ index at there. sym (led.living.hosts_live index at (led.joins.addrs (suc index) ∙ there));
  }

  pub no_two_hold : IsTrue now.timely → NoTwoHold now hosts
  no_two_hold timely name i j at to k l ne there here p q =
      laws.safe (filled now led.ends led.written) led.joins.kept timely name (suc i) (suc j) k l (λ e. ne (ap pred e)) (holding i at there k p) (holding j to here l q)
    where
      holding : (index : ℕ) (at : Addr) → addr_of now.ends (suc index) ≡ Some at → (kind : Kind) → held_by (hosts index) name (reading now.now (suc index)) ≡ Some kind
          → held_by (node_of led.ends (suc index)) name (reading now.now (suc index)) ≡ Some kind
      holding index at there kind is = ap (λ (x : Option NodeValue). held_by x name (reading now.now (suc index))) (sym (led.living.hosts_live index at (led.joins.addrs (suc index) ∙ there))) ∙ is

  pub no_two_hold_while_kept : IsTrue now.kept → NoTwoHold now hosts
  no_two_hold_while_kept kept = no_two_hold (laws.timely (filled now led.ends led.written) led.joins.kept kept)
