-- A whole host is a part of its life after another, from its start to its end.
use Rattle.std.proofs.Common.{◌≡◌, ◌+◌, ℕ, Bool, true, false, if◌then◌else◌, nat_eq, List, [], ◌∷◌, ◌++◌, map, length, slice_get, Option, Some, None, refl, sym, ap, subst, ◌∙◌, append_assoc, inl, inr}
use Rattle.std.specs.Option.{unwrap_or}
use Rattle.nbt_name.specs.declared.addr.Addr.{Addr}
use Rattle.nbt_node.specs.Node.{NodeValue, slots_most}
use Rattle.nbt_port.specs.Memory.{came_in}
use Rattle.nbt_port.specs.PortCalls.{PortCall, receive_failed, Chain}
use Rattle.nbt_port.specs.Udp.{UdpDoes}
use Rattle.nbt_port.specs.Until.{until_of}
use Rattle.nbt_port.specs.Numbers.{forever}
use Rattle.nbt_port.specs.declared.fault.Fault.{Fault}
use Rattle.nbt_port.proofs.Chains.{chain_one}
use Rattle.nbt_host.specs.declared.arguments.HostArguments.{HostArguments}
use Rattle.nbt_host.specs.declared.asked.Asked.{Asked}
use Rattle.nbt_host.specs.declared.asked.Noted.{Noted}
use Rattle.nbt_host.specs.declared.host.Shown.{Shown}
use Rattle.nbt_host.specs.declared.watching.Look.{Look}
use Rattle.nbt_host.specs.Host.{HostingValue, Running, terms_of, Starts, moved_to, moved}
use Rattle.nbt_host.specs.Hosting.{HostValue, Terms, first_id, woken, HostHears, HearsAfter, sleeps, wakes, HostTurn, BreaksCalls, at_requests, at_polls, at_receive, at_reply, HostBreaks}
use Rattle.nbt_host.specs.ReleaseLines.{releasing, EndsWell, EndsBadly, GivesBack, GivingBackFails, breaks, is_cut}
use Rattle.nbt_host.specs.Releasing.{Releasing, Turns, Breaks, TurnsOn, Ended, is_over, is_spent, Broken, Leaves, giving_back, leaving}
use Rattle.nbt_host.specs.Running.{RunsHost, RunFails, before, at_the_end, IsOverAt, Begins, HostsOver, HostOverFails, TellsHere, LooksHere}
use Rattle.nbt_host.specs.Servers.{after_turn, noted_of, next_of, is_silent, follows}
use Rattle.nbt_host.specs.Staying as staying
use Rattle.nbt_host.specs.Turning.{GoesThrough, TakesTurn, BreaksTurn, TurnsWell, TurnsBadly, TurnIsCut}
use Rattle.nbt_net.specs.Hosts as hosts
use Rattle.nbt_net.specs.Hosts.{HostLives}
use Rattle.nbt_net.specs.Servers.{act_at}
use Rattle.nbt_net.specs.Devices.{NoStore, reads, going_on, acts_at, ends as acts_end}
use Rattle.nbt_net.specs.Hosting.{TellsOrLooks, host_machine, HostIsLived, HostsAreLived, FailedHostsAreLived, HostsHereAreLived, FailedHostsHereAreLived}
use Rattle.nbt_net.proofs.HostTurns.{Does, does_one, does_both, all_requested, requests_broken, all_polled, polls_broken, wakes_up}
use Rattle.nbt_net.proofs.HostParts.{asked_quietly, broken_quietly, polled_quietly, polls_broken_quietly, none_came, HostPart, one_look, all_heard, reply_lost, slept_through}
use Rattle.nbt_net.proofs.Ordering.{chain_split}
use Rattle.nbt_net.proofs.Parts.{no_part, parts, read_alone, whole}
use Rattle.nbt_net.proofs.Staying.{IsOverall, stays_until, ends_early}

module _ {P K : Type 0} (does : P → PortCall → P → Type 0) (tells : K → ℕ → K → Type 0) (looks : K → Look → K → Type 0) (a : HostArguments) where
  abbrev Lived : Option NodeValue → P → K → Option NodeValue → P → K → Type 0
  Lived from port watch to new_port new_watch = HostPart does tells looks a.config a.server a.bind from port watch to new_port new_watch

  joined : {old mid new : Option NodeValue} {p q r : P} {v w x : K} → Lived old p v mid q w → Lived mid q w new r x → Lived old p v new r x
  joined first second = parts (HostLives a.config a.server a.bind) 0 does (TellsOrLooks tells looks) NoStore first second

  reading : {node : Option NodeValue} {p : P} {v w : K} (now : ℕ) → tells v now w → Lived node p v node p w
  reading now told = read_alone (HostLives a.config a.server a.bind) 0 does (TellsOrLooks tells looks) NoStore now (λ story known. tt) (inl told) refl refl

  -- ---- a turn at the one server

  module _ (t : Terms) (slots : t.slots ≡ slots_most) (server_is : t.server ≡ a.server) (config_is : t.config ≡ a.config) (old : HostValue) (own : old.node.addr ≡ a.bind) where
    abbrev Here : (now : ℕ) → NodeValue → List PortCall → NodeValue → Type 0
    Here now node calls new = Does t.config t.server old.node.addr now node calls new

    -- in the words of the arguments
    said : {now : ℕ} {node new : NodeValue} {calls : List PortCall} → Here now node calls new → Does a.config a.server a.bind now node calls new
    said {now} {node} {new} {calls} d = subst (λ (at : Addr). Does a.config a.server at now node calls new) own (subst (λ (s : Addr). Does a.config s old.node.addr now node calls new) server_is (subst (λ c. Does c t.server old.node.addr now node calls new) config_is d))

    first_part : (look : Look) (begun : HostValue) {calls : List PortCall} {new : NodeValue} → begun.node ≡ (woken t look old).node → Here look.at begun.node calls new → Here look.at old.node calls new
    first_part look begun {calls} {new} is d = does_both (wakes_up t look old slots) (subst (λ (n : NodeValue). Here look.at n calls new) is d)

    -- a turn's two looks, and its calls
    pub through : {calls : List PortCall} {seen : List Look} {new : HostValue} {p q : P} {v w : K} → HostTurn t old calls seen new → Chain does p calls q → Chain looks v seen w → Lived (Some old.node) p v (Some new.node) q w × (new.node.addr ≡ a.bind)
    through {calls} {seen} {new} {p} {q} {v} {w} turn did looked = two (subst (λ (ls : List Look). Chain looks v ls w) turn.looks_are looked)
      where
        early : List PortCall
        early = turn.requesting ++ turn.polling

        split : (mid : P) × Chain does p early mid × Chain does mid turn.hearing q
        split = chain_split does early turn.hearing p q (subst (λ (cs : List PortCall). Chain does p cs q) (turn.acts_are ∙ sym (append_assoc turn.requesting turn.polling turn.hearing)) did)

        d : Here turn.first.at old.node early turn.polled
        d = first_part turn.first turn.begun (ap (λ (h : HostValue). h.node) turn.begins) (does_both (all_requested turn.requests) (all_polled turn.polls))

        quiet : came_in early ≡ []
        quiet = none_came turn.requesting turn.polling (asked_quietly turn.requests) (polled_quietly turn.polls)

        heard : {hearing : List PortCall} {mid : P} {x y : K} (end : HostValue) → HearsAfter t turn.second (record turn.begun { node = turn.polled }) hearing end → looks x turn.second y → Chain does mid hearing q → Lived (Some turn.polled) mid x (Some end.node) q y × (end.node.addr ≡ a.bind)
        heard {mid = mid} {x} {y} _ (sleeps found octets slept) look receive =
            let asleep : Here turn.second.at turn.polled [] (woken t turn.second (record turn.begun { node = turn.polled })).node =
            subst (λ (at : Addr). Does t.config t.server at turn.second.at turn.polled [] (woken t turn.second (record turn.begun { node = turn.polled })).node) d.addr_is (wakes_up t turn.second (record turn.begun { node = turn.polled }) slots) in
            (slept_through does tells looks a.config a.server a.bind mid q x y turn.second look turn.polled _ found octets (said asleep) receive, asleep.addr_is ∙ d.addr_is ∙ own)
        heard {hearing} {mid} {x} {y} _ (wakes _ notice node awake h) look receive =
            let awoken : Here turn.second.at turn.polled hearing node = does_one hearing (hosts.hears hearing notice node h) in (
              all_heard does tells looks a.config a.server a.bind mid q x y turn.second look (subst (λ (s : Addr). HostHears s turn.second.at turn.polled hearing notice node) server_is h) (said awoken) receive,
              awoken.addr_is ∙ d.addr_is ∙ own,
            )

        two : Chain looks v (turn.first ∷ turn.second ∷ []) w → Lived (Some old.node) p v (Some new.node) q w × (new.node.addr ≡ a.bind)
        two (x, first_looked, (y, second_looked, is)) =
            let back = heard new turn.hears second_looked split.2 in (
              joined (one_look does tells looks a.config a.server a.bind p split.0 v x turn.first first_looked old.node turn.polled early (said d) quiet split.1)
                  (subst (λ (k : K). Lived (Some turn.polled) split.0 x (Some new.node) q k) (sym is) back.0),
              back.1,
            )

    -- a turn in which the device fails
    pub cut_off : {calls : List PortCall} {seen : List Look} {new : HostValue} {p q : P} {v w : K} → HostBreaks t old calls seen new → Chain does p calls q → Chain looks v seen w → Lived (Some old.node) p v (Some new.node) q w × (new.node.addr ≡ a.bind)
    cut_off {new = new} {p} {q} {v} {w} turn did looked = by turn.calls did (subst (λ (ls : List Look). Chain looks v ls w) turn.looks_are looked)
      where
        begins : turn.begun.node ≡ (woken t turn.first old).node
        begins = ap (λ (h : HostValue). h.node) turn.begins

        alone : (calls : List PortCall) (node : NodeValue) → Here turn.first.at old.node calls node → came_in calls ≡ [] → Chain does p calls q → Chain looks v (turn.first ∷ []) w → Lived (Some old.node) p v (Some node) q w × (node.addr ≡ a.bind)
        alone calls node d quiet did (x, look, is) =
            (subst (λ (k : K). Lived (Some old.node) p v (Some node) q k) (sym is) (one_look does tells looks a.config a.server a.bind p q v x turn.first look old.node node calls (said d) quiet did), d.addr_is ∙ own)

        by : {calls : List PortCall} {later : List Look} {node : NodeValue} → BreaksCalls t.server turn.first.at turn.begun.goals turn.begun.node calls later node → Chain does p calls q → Chain looks v (turn.first ∷ later) w
            → Lived (Some old.node) p v (Some node) q w × (node.addr ≡ a.bind)
        by (at_requests requesting node broke) did looked = alone requesting node (first_part turn.first turn.begun begins (requests_broken broke)) (broken_quietly broke) did looked
        by (at_polls requesting polling requested node asked broke) did looked =
            alone (requesting ++ polling) node (first_part turn.first turn.begun begins (does_both (all_requested asked) (polls_broken broke))) (none_came requesting polling (asked_quietly asked) (polls_broken_quietly broke)) did looked
        by (at_receive requesting polling requested node asked polls) did looked =
            alone (requesting ++ (polling ++ receive_failed ∷ [])) node
            (first_part turn.first turn.begun begins (does_both (all_requested asked) (does_both (all_polled polls) (does_one (receive_failed ∷ []) hosts.cannot_hear))))
            (none_came requesting (polling ++ receive_failed ∷ []) (asked_quietly asked) (none_came polling (receive_failed ∷ []) (polled_quietly polls) refl)) did looked
        by (at_reply second requesting polling hearing requested polled node asked polls awake loses) did (x, first_look, (y, second_look, is)) =
            let split = chain_split does (requesting ++ polling) hearing p q (subst (λ (cs : List PortCall). Chain does p cs q) (sym (append_assoc requesting polling hearing)) did) in
            let d : Here turn.first.at old.node (requesting ++ polling) polled = first_part turn.first turn.begun begins (does_both (all_requested asked) (all_polled polls)) in
            let e : Here second.at polled hearing node = does_one hearing (hosts.loses_reply hearing node loses) in
            let back = reply_lost does tells looks a.config a.server a.bind split.0 q x y second second_look loses (said e) split.2 in (
              joined (one_look does tells looks a.config a.server a.bind p split.0 v x turn.first first_look old.node polled (requesting ++ polling) (said d) (none_came requesting polling (asked_quietly asked) (polled_quietly polls)) split.1)
                  (subst (λ (k : K). Lived (Some polled) split.0 x (Some node) q k) (sym is) back),
              e.addr_is ∙ d.addr_is ∙ own,
            )

  -- ---- a host that stays up

  -- its server and its address
  abbrev Fixed : HostingValue K → Type 0
  Fixed h = (h.asked.server ≡ a.server) × (h.host.node.addr ≡ a.bind)

  abbrev Over : Running P K → Running P K → Type 0
  Over old new = Fixed old.host → Lived (Some old.host.host.node) old.port old.host.watch (Some new.host.host.node) new.port new.host.watch × Fixed new.host

  same_if : (b : Bool) (x y : Asked) (server : Addr) → x.server ≡ server → y.server ≡ server → (if b then x else y).server ≡ server
  same_if true x y server p q = p
  same_if false x y server p q = q

  still_asked : (n : Noted) (now : ℕ) (s : Asked) → (after_turn n now s).server ≡ s.server
  still_asked n now s = same_if n.heard (record s { heard = now; since = None }) (if n.asked then record s { since = Some (unwrap_or s.since now) } else s) s.server refl
      (same_if n.asked (record s { since = Some (unwrap_or s.since now) }) s s.server refl refl)

  -- it went through a turn, or the device failed in it
  gone : (turns : Terms → HostValue → List PortCall → List Look → HostValue → Type 0) (old_port port : P) (old new : HostingValue K) (shown : Shown)
      → ((calls : List PortCall) (seen : List Look) (q : P) (w : K) → old.asked.server ≡ a.server → old.host.node.addr ≡ a.bind → turns (terms_of a old.asked) old.host calls seen new.host → Chain does old_port calls q → Chain looks old.watch seen w
      → Lived (Some old.host.node) old_port old.watch (Some new.host.node) q w × (new.host.node.addr ≡ a.bind))
      → GoesThrough turns does tells looks a old_port old shown port new → Fixed old → Lived (Some old.host.node) old_port old.watch (Some new.host.node) port new.watch × Fixed new
  gone turns old_port port old new shown each g fixed =
      let turned = each g.acts g.seen port g.mid fixed.0 fixed.1 g.turn g.port_did g.looked in
      (joined turned.0 (reading shown.at g.told), (ap (λ (s : Asked). s.server) g.asked_is ∙ (still_asked (noted_of old.asked.server g.acts) new.last.at old.asked ∙ fixed.0), turned.1))

  well : (old_port port : P) (old new : HostingValue K) (shown : Shown) → TakesTurn does tells looks a old_port old shown port new → Fixed old → Lived (Some old.host.node) old_port old.watch (Some new.host.node) port new.watch × Fixed new
  well old_port port old new shown = gone HostTurn old_port port old new shown (λ calls seen q w server own turn did looked. through (terms_of a old.asked) refl server refl old.host own turn did looked)

  badly : (old_port port : P) (old new : HostingValue K) (shown : Shown) → BreaksTurn does tells looks a old_port old shown port new → Fixed old → Lived (Some old.host.node) old_port old.watch (Some new.host.node) port new.watch × Fixed new
  badly old_port port old new shown = gone HostBreaks old_port port old new shown (λ calls seen q w server own turn did looked. cut_off (terms_of a old.asked) refl server refl old.host own turn did looked)

  module _ (alone : a.others.items ≡ []) where
    no_other : (now : ℕ) (s : Asked) → next_of a now s ≡ None
    no_other now s = ap (λ (others : List Addr). if nat_eq (length others) 0 then None else (if is_silent a.config now s then Some (follows now a.server s.place (slice_get others s.place)) else None)) alone

    stays_there : (h : HostingValue K) → moved a h ≡ h
    stays_there h = ap (λ (asked : Option Asked). moved_to a asked h) (no_other h.last.at h.asked)

    -- after the turn no other server is asked
    there : (old : Running P K) (port : P) (turned new : HostingValue K) → new ≡ moved a turned → Lived (Some old.host.host.node) old.port old.host.watch (Some turned.host.node) port turned.watch × Fixed turned
        → Lived (Some old.host.host.node) old.port old.host.watch (Some new.host.node) port new.watch × Fixed new
    there old port turned new is known = subst (λ (h : HostingValue K). Lived (Some old.host.host.node) old.port old.host.watch (Some h.host.node) port h.watch × Fixed h) (sym (is ∙ stays_there turned)) known

    turned_well : (old new : Running P K) (shown : Shown) → TurnsWell does tells looks a old shown new → Over old new
    turned_well old new shown (turned, turn, printed, is) fixed = there old new.port turned new.host is (well old.port new.port old.host turned shown turn fixed)

    turned_badly : (old new : Running P K) → TurnsBadly does tells looks a old new → Over old new
    turned_badly old new (shown, turned, turn, printed, is) fixed = there old new.port turned new.host is (badly old.port new.port old.host turned shown turn fixed)

    turned_last : (old new : Running P K) → TurnIsCut does tells looks a old new → Over old new
    turned_last old new (shown, some, which) fixed = elim which [ inl turn ↦ well old.port new.port old.host new.host shown turn fixed | inr turn ↦ badly old.port new.port old.host new.host shown turn fixed ]

    overall : (until : Option ℕ) → IsOverall (staying.TurnsOn does tells looks a until) (TurnsBadly does tells looks a) Over
    overall until = record {
      none = λ here fixed. (no_part (HostLives a.config a.server a.bind) 0 does (TellsOrLooks tells looks) NoStore refl refl, fixed);
      both = λ old mid new first second fixed. let early = first fixed in let late = second early.1 in (joined early.0 late.0, late.1);
      of_turn = λ old new shown turn. turned_well old new shown turn.0;
      of_break = λ old new turn. turned_badly old new turn;
    }

    pub stayed_up : (until : Option ℕ) (old new : Running P K) → staying.HostsUntil does tells looks a until old new → Over old new
    stayed_up until old new stays = stays_until (staying.TurnsOn does tells looks a until) (TurnsBadly does tells looks a) Over (overall until) Over (λ old new over. over) (staying.TurnsLast does tells looks a until) forever old new
        (λ mid so_far last fixed. let early = so_far fixed in let late = turned_well mid new last.0 last.1 early.1 in (joined early.0 late.0, late.1)) stays

    pub gave_up : (until : Option ℕ) (fault : Fault) (old new : Running P K) → staying.HostingFails does tells looks a until fault old new → Over old new
    gave_up until fault old new fails = ends_early (staying.TurnsOn does tells looks a until) (TurnsBadly does tells looks a) Over (overall until) Over (λ old new over. over) (staying.IsCutBy does tells looks a) forever fault old new
        (λ why mid so_far cut fixed. let early = so_far fixed in let late = turned_last mid new cut.1 early.1 in (joined early.0 late.0, late.1)) fails

  -- ---- its names are given back

  abbrev Giving : Releasing P K → Releasing P K → Type 0
  Giving old new = old.host.node.addr ≡ a.bind → Lived (Some old.host.node) old.port old.watch (Some new.host.node) new.port new.watch × (new.host.node.addr ≡ a.bind)

  module _ (asked : Asked) (server : asked.server ≡ a.server) where
    gives_turn : (old new : Releasing P K) (at : ℕ) → Turns does tells looks (terms_of a asked) old at new → Giving old new
    gives_turn old new at (calls, seen, mid, turn, last, did, looked, told) own = let turned = through (terms_of a asked) refl server refl old.host own turn did looked in (joined turned.0 (reading at told), turned.1)

    gives_on : (limit : ℕ) (times : List ℕ) (old new : Releasing P K) → Chain (TurnsOn does tells looks (terms_of a asked) limit) old times new → Giving old new
    gives_on limit [] old new chain own =
        subst (λ (r : Releasing P K). Lived (Some old.host.node) old.port old.watch (Some r.host.node) r.port r.watch × (r.host.node.addr ≡ a.bind)) (sym chain) (no_part (HostLives a.config a.server a.bind) 0 does (TellsOrLooks tells looks) NoStore refl refl, own)
    gives_on limit (time ∷ times) old new chain own =
        let first = gives_turn old chain.0 time chain.1.0 own in
        let rest = gives_on limit times chain.0 new chain.2 first.1 in
        (joined first.0 rest.0, rest.1)

    given : (limit most : ℕ) (old new : Releasing P K) → Ended does tells looks (terms_of a asked) limit most old new → Giving old new
    given limit most old new (is_over times at mid chain turn over) own = let first = gives_on limit times old mid chain own in let last = gives_turn mid new at turn first.1 in (joined first.0 last.0, last.1)
    given limit most old new (is_spent times chain all) own = gives_on limit times old new chain own

    given_badly : (limit most : ℕ) (old new : Releasing P K) → Broken does tells looks (terms_of a asked) limit most old new → Giving old new
    given_badly limit most old new broken own =
        let first = gives_on limit broken.times old broken.mid broken.goes_on own in
        let last = breaks_at broken.mid new broken.breaks first.1 in
        (joined first.0 last.0, last.1)
      where
        breaks_at : (old new : Releasing P K) → Breaks does looks (terms_of a asked) old new → Giving old new
        breaks_at old new (calls, seen, turn, last, did, looked) own = cut_off (terms_of a asked) refl server refl old.host own turn did looked

    leaves : (goes : ℕ → Releasing P K → Releasing P K → Type 0) (old new : Releasing P K) → ((limit : ℕ) (old new : Releasing P K) → goes limit old new → Giving old new) → Leaves tells goes old new → Giving old new
    leaves goes old new each l own =
        let rest = each (l.now + giving_back) (record old { watch = l.read; host = record old.host { goals = map leaving old.host.goals } }) new l.goes_on own in
        (joined (reading l.now l.told) rest.0, rest.1)

    module _ (old_port port : P) (old new : HostingValue K) (at : ℕ) (own : old.host.node.addr ≡ a.bind) where
      ends_well : EndsWell does tells looks (terms_of a asked) old_port old at port new → Lived (Some old.host.node) old_port old.watch (Some new.host.node) port new.watch
      ends_well (ended, gives, told) =
          let all = leaves (λ limit left end. Ended does tells looks (terms_of a asked) limit forever left end) (releasing old_port old) (releasing port (record new { watch = ended })) (λ limit left end. given limit forever left end) gives own in
          joined all.0 (reading at told)

      ends_badly : EndsBadly does tells looks (terms_of a asked) old_port old at port new → Lived (Some old.host.node) old_port old.watch (Some new.host.node) port new.watch
      ends_badly (ended, gives, told) =
          let all = leaves (λ limit left end. Broken does tells looks (terms_of a asked) limit forever left end) (releasing old_port old) (releasing port (record new { watch = ended })) (λ limit left end. given_badly limit forever left end) gives own in
          joined all.0 (reading at told)

  gave_back : (asked : Asked) (old new : Running P K) → asked.server ≡ a.server → old.host.host.node.addr ≡ a.bind → GivesBack does tells looks (terms_of a asked) old new → Lived (Some old.host.host.node) old.port old.host.watch (Some new.host.host.node) new.port new.host.watch
  gave_back asked old new server own (at, ends, printed) = ends_well asked server old.port new.port old.host new.host at own ends

  gave_back_badly : (fault : Fault) (asked : Asked) (old new : Running P K) → asked.server ≡ a.server → old.host.host.node.addr ≡ a.bind → GivingBackFails does tells looks (terms_of a asked) fault old new
      → Lived (Some old.host.host.node) old.port old.host.watch (Some new.host.host.node) new.port new.host.watch
  gave_back_badly _ asked old new server own (breaks _ _ at ends printed) = ends_badly asked server old.port new.port old.host new.host at own ends
  gave_back_badly fault asked old new server own (is_cut _ _ _ at cant which) = elim which [ inl ends ↦ ends_well asked server old.port new.port old.host new.host at own ends | inr ends ↦ ends_badly asked server old.port new.port old.host new.host at own ends ]

  -- ---- the whole

  module _ (alone : a.others.items ≡ []) where
    over_at : (until : Option ℕ) (goes : Running P K → Running P K → Type 0) (old : Running P K) (all : Bool) (new : Running P K) (o : IsOverAt does tells looks a until goes old all new)
        → ((old : Running P K) → old.host.asked ≡ o.stayed.host.asked → Fixed old.host → goes old new → Lived (Some old.host.host.node) old.port old.host.watch (Some new.host.host.node) new.port new.host.watch)
        → Fixed old.host → Lived (Some old.host.host.node) old.port old.host.watch (Some new.host.host.node) new.port new.host.watch
    over_at until goes old all new o each fixed =
        let first = stayed_up alone until old o.stayed o.stays fixed in
        joined first.0 (joined (reading o.now o.told) (each (record o.stayed { host = record o.stayed.host { watch = o.read } }) refl first.1 o.goes_on))

    ran : (until : Option ℕ) (all : Bool) (old new : Running P K) → RunsHost does tells looks a until all old new → Fixed old.host → Lived (Some old.host.host.node) old.port old.host.watch (Some new.host.host.node) new.port new.host.watch
    ran until all old new runs = over_at until (λ stayed end. GivesBack does tells looks (terms_of a stayed.host.asked) stayed end) old all new runs (λ from same fixed gives. gave_back from.host.asked from new fixed.0 fixed.1 gives)

    failed : (until : Option ℕ) (fault : Fault) (old new : Running P K) → RunFails does tells looks a until fault old new → Fixed old.host → Lived (Some old.host.host.node) old.port old.host.watch (Some new.host.host.node) new.port new.host.watch
    failed until _ _ _ (before fault old new fails) fixed = (gave_up alone until fault old new fails fixed).0
    failed until _ _ _ (at_the_end fault all old new over) fixed = over_at until (λ stayed end. GivingBackFails does tells looks (terms_of a stayed.host.asked) fault stayed end) old all new over (λ from same fixed gives. gave_back_badly fault from.host.asked from new fixed.0 fixed.1 gives) fixed

    -- it starts
    started : (port : P) (watch : K) (first : HostingValue K) → Starts looks a watch first → Lived None port watch (Some first.host.node) port first.watch × Fixed first
    started port watch first s = (
      record {
        calls = reads first.last.at ∷ [];
        acts = act_at first.last.at ∷ [];
        did = (host_machine port first.watch, (inr (first.last, s.looked, refl), refl, refl), refl);
        lived = chain_one (HostLives a.config a.server a.bind) None (act_at first.last.at) (Some first.host.node)
            (subst (λ (h : HostValue). HostLives a.config a.server a.bind None (act_at first.last.at) (Some h.node)) (sym s.host_is) (hosts.starts first.last.at (first_id first.last)));
        goes = λ story known. (going_on first.last.at (act_at first.last.at ∷ []) story, refl, acts_at story _ first.last.at (act_at first.last.at ∷ []) [] (refl, tt) refl (acts_end _), tt);
      },
      (ap (λ (x : Asked). x.server) s.asked_is, ap (λ (h : HostValue). h.node.addr) s.host_is),
    )

    begun : {at : Addr} {goes : (until : Option ℕ) → Running P K → Running P K → Type 0} {old_port port : P} {watch : K} {old_text text : Option (List ℕ)} → (b : Begins looks at a goes old_port watch old_text port text)
        → ((until : Option ℕ) (old new : Running P K) → goes until old new → Fixed old.host → Lived (Some old.host.host.node) old.port old.host.watch (Some new.host.host.node) new.port new.host.watch)
        → HostIsLived does tells looks a old_port watch b.last.host.node port b.last.watch
    begun {old_port = old_port} {port} {watch} {text = text} b each =
        let first = started old_port watch b.first b.starts in
        let rest = each (until_of b.first.last.at a.time) (record { port = old_port; host = b.first; text = b.begun_text }) (record { port = port; host = b.last; text = text }) b.goes_on first.1 in
        whole (HostLives a.config a.server a.bind) 0 does (TellsOrLooks tells looks) NoStore tt (joined first.0 rest)

    pub hosted : {at : Addr} {all : Bool} {old_port port : P} {watch : K} {old_text text : Option (List ℕ)} → (b : HostsOver does tells looks at a all old_port watch old_text port text) → HostIsLived does tells looks a old_port watch b.last.host.node port b.last.watch
    hosted {all = all} b = begun b (λ until old new runs fixed. ran until all old new runs fixed)

    pub hosted_badly : {at : Addr} {fault : Fault} {old_port port : P} {watch : K} {old_text text : Option (List ℕ)} → (b : HostOverFails does tells looks at a fault old_port watch old_text port text) → HostIsLived does tells looks a old_port watch b.last.host.node port b.last.watch
    hosted_badly {fault = fault} b = begun b (λ until old new fails fixed. failed until fault old new fails fixed)

pub hosts_are_lived : {P K : Type 0} (does : P → PortCall → P → Type 0) (tells : K → ℕ → K → Type 0) (looks : K → Look → K → Type 0) → HostsAreLived does tells looks
hosts_are_lived does tells looks at a all old_port port watch old_text text alone over = hosted does tells looks a alone over

pub failed_hosts_are_lived : {P K : Type 0} (does : P → PortCall → P → Type 0) (tells : K → ℕ → K → Type 0) (looks : K → Look → K → Type 0) → FailedHostsAreLived does tells looks
failed_hosts_are_lived does tells looks at a fault old_port port watch old_text text alone over = hosted_badly does tells looks a alone over

pub hosts_here_are_lived : HostsHereAreLived
hosts_here_are_lived a all old_text text alone (at, steady, day, salt, port, begins, over) = hosted UdpDoes TellsHere LooksHere a alone over

pub failed_hosts_here_are_lived : FailedHostsHereAreLived
failed_hosts_here_are_lived a fault old_text text alone (at, steady, day, salt, port, begins, over) = hosted_badly UdpDoes TellsHere LooksHere a alone over
