-- What a server does in an act is a run of the world.
use Rattle.std.proofs.Common.{◌≡◌, ℕ, List, [], ◌∷◌, ◌++◌, Option, Some, None, refl, sym, ap, subst, ◌∙◌, append-nil}
use Rattle.nbt_packet.specs.Message.{MessageValue}
use Rattle.nbt_packet.specs.Text.{text}
use Rattle.nbt_port.specs.declared.port.Route.{Route}
use Rattle.nbt_port.specs.PortCalls.{PortCall, nothing_came, came, receive_failed, sent, send_failed}
use Rattle.nbt_server.specs.Serving.{ServerValue}
use Rattle.nbt_server.specs.Calls.{ServerStarts, ServerResumes, ServerTakes, ServerForgets, limited}
use Rattle.nbt_serve.specs.Serving.{Turn, Turns, passes, takes, goes_back, has_no_memory, acts_in as calls_in, moments_in, Failure, of_receive, of_send, acts_of as calls_of, moments_of, Fails}
use Rattle.nbt_world.specs.declared.ends.Ends.{Ends}
use Rattle.nbt_world.specs.declared.network.Datagram.{Datagram}
use Rattle.nbt_world.specs.declared.event.Event.TheVariants as event
use Rattle.nbt_world.specs.declared.event.Outcome.TheVariants as outcome
use Rattle.nbt_world.specs.Drift.{reading}
use Rattle.nbt_world.specs.World.{WorldValue, with_server}
use Rattle.nbt_world.specs.Step.{TakenValue, is_lost as lost, takes as takes_it, server_takes, server_forgets, by_server, EndTakes, after_taking, starts as start_is_step, server_starts, crashes as crash_is_step, server_crashes, resumes as resume_is_step, server_resumes}
use Rattle.nbt_net.specs.Wire.{Act, sent_by, AllMayCome}
use Rattle.nbt_net.specs.Servers.{ServerEnd, never_up, up, down, up_of, was_of, AreReadAt, with_rows, ServerLives, starts, starts_anew, resumes, has_limit, has_rows, takes_turn, breaks_turn, crashes}
use Rattle.nbt_net.specs.Reaching.{by_event, by_taking, by_limit, by_rows, Reaches, stays, with_end, ServersActIsARun}
use Rattle.nbt_net.proofs.Ends.{once, origin_of, quietly}

-- the world after an act of the server
abbrev after : WorldValue → ServerEnd → List PortCall → WorldValue
after w server calls = record w { ends = with_end w.ends server; sent = w.sent ++ sent_by w.ends.server_addr w.now calls }

module _ (w : WorldValue) (before : ServerEnd) (is : w.ends ≡ with_end w.ends before) where
  -- nothing changed, and nothing was sent
  same : w ≡ after w before []
  same = λ j. record w { ends = is j; sent = sym (append-nil w.sent) j }

  moved : (new : ServerEnd) (calls : List PortCall) → new ≡ before → sent_by w.ends.server_addr w.now calls ≡ [] → after w before [] ≡ after w new calls
  moved new calls new_is none = λ j. record w { ends = with_end w.ends (sym new_is j); sent = w.sent ++ sym none j }

  unchanged : (new : ServerEnd) (calls : List PortCall) → new ≡ before → sent_by w.ends.server_addr w.now calls ≡ [] → Reaches w (after w new calls)
  unchanged new calls new_is none = subst (λ (x : WorldValue). Reaches w x) (same ∙ moved new calls new_is none) (stays w)

  server_is : w.ends.server ≡ up_of before
  server_is = ap (λ (e : Ends). e.server) is

  was_is : w.ends.crashed ≡ was_of before
  was_is = ap (λ (e : Ends). e.crashed) is

module _ (w : WorldValue) (old : ServerValue) (is : w.ends ≡ with_end w.ends (up old)) where
  -- a datagram was taken, and this is the world with its reply
  taken_so : (from : Route) (octets : List ℕ) (calls : List PortCall) (taken : TakenValue) (new : ServerValue) → AllMayCome w w.ends.server_addr (came from octets ∷ calls) → EndTakes (reading w.now 0) w.ends from.peer octets 0 taken (with_server w.ends (Some new) w.ends.crashed)
      → after_taking w (with_server w.ends (Some new) w.ends.crashed) w.ends.server_addr from.peer taken ≡ record w { ends = with_server w.ends (Some new) w.ends.crashed; sent = w.sent ++ sent_by w.ends.server_addr w.now calls }
      → Reaches w (after w (up new) (came from octets ∷ calls))
  taken_so from octets calls taken new comes does sends =
      subst (λ (x : WorldValue). Reaches w x) (sends ∙ ap (λ (c : Option ServerValue). record w { ends = with_server w.ends (Some new) c; sent = w.sent ++ sent_by w.ends.server_addr w.now calls }) (was_is w (up old) is))
      (once (by_taking 0 from.peer w.ends.server_addr octets taken _ refl (origin_of comes.0) does))

  none_more : (ends : Ends) → record w { ends = ends } ≡ record w { ends = ends; sent = w.sent ++ [] }
  none_more ends = ap (λ (xs : List Datagram). record w { ends = ends; sent = xs }) (sym (append-nil w.sent))

  takes_so : (from : Route) (octets : List ℕ) (calls : List PortCall) (reply : Option MessageValue) (new : ServerValue) → AllMayCome w w.ends.server_addr (came from octets ∷ calls) → ServerTakes old (reading w.now 0) from.peer.ip octets reply new
      → after_taking w (with_server w.ends (Some new) w.ends.crashed) w.ends.server_addr from.peer (takes_it reply) ≡ record w { ends = with_server w.ends (Some new) w.ends.crashed; sent = w.sent ++ sent_by w.ends.server_addr w.now calls }
      → Reaches w (after w (up new) (came from octets ∷ calls))
  takes_so from octets calls reply new comes does sends =
      taken_so from octets calls (takes_it reply) new comes (by_server old new (takes_it reply) (server_is w (up old) is) (server_takes reply new does)) sends

  turn : {turn : Turn} {new : ServerValue} {now : ℕ} → now ≡ reading w.now 0 → AreReadAt now (moments_in turn) → Turns old turn new → AllMayCome w w.ends.server_addr (calls_in turn) → Reaches w (after w (up new) (calls_in turn))
  turn at read passes comes = unchanged w (up old) is (up old) (nothing_came ∷ []) refl refl
  turn at read (takes m from octets None new does) comes =
      takes_so from octets [] None new comes (subst (λ (n : ℕ). ServerTakes old n from.peer.ip octets None new) (read.0 ∙ at) does) (none_more _)
  turn at read (takes m from octets (Some reply) new does) comes =
      takes_so from octets (sent from (text reply) ∷ []) (Some reply) new comes (subst (λ (n : ℕ). ServerTakes old n from.peer.ip octets (Some reply) new) (read.0 ∙ at) does) refl
  turn at read (goes_back m from octets early) comes = unchanged w (up old) is (up old) (came from octets ∷ []) refl refl
  turn at read (has_no_memory m from octets new forgets) comes =
      taken_so from octets [] lost new comes
      (by_server old new lost (server_is w (up old) is) (server_forgets new (subst (λ (n : ℕ). ServerForgets old n from.peer.ip octets new) (read.0 ∙ at) forgets))) (none_more _)

  broken : (failure : Failure) {new : ServerValue} {now : ℕ} → now ≡ reading w.now 0 → AreReadAt now (moments_of failure) → Fails old failure new → AllMayCome w w.ends.server_addr (calls_of failure) → Reaches w (after w (up new) (calls_of failure))
  broken of_receive at read fails comes = unchanged w (up old) is _ (receive_failed ∷ []) (ap up fails) refl
  broken (of_send m from octets reply) {new} at read fails comes =
      takes_so from octets (send_failed from (text reply) ∷ []) (Some reply) new comes (subst (λ (n : ℕ). ServerTakes old n from.peer.ip octets (Some reply) new) (read.0 ∙ at) fails) refl

module _ (w : WorldValue) where
  acted : {before new : ServerEnd} {act : Act} → w.ends ≡ with_end w.ends before → ServerLives w.config before act new → act.now ≡ reading w.now 0 → AllMayCome w w.ends.server_addr act.calls → Reaches w (after w new act.calls)
  acted is (starts now server new) at comes =
      quietly _ (by_event (event.Start 0) outcome.Done _ (start_is_step 0 _ (server_starts server (server_is w never_up is) (subst (λ (n : ℕ). ServerStarts w.config n server) at new))))
  acted is (starts_anew now was server new) at comes =
      quietly _ (by_event (event.Start 0) outcome.Done _ (start_is_step 0 _ (server_starts server (server_is w (down was) is) (subst (λ (n : ℕ). ServerStarts w.config n server) at new))))
  acted is (resumes now was server new) at comes =
      quietly _ (by_event event.Resume outcome.Done _ (resume_is_step _ (server_resumes was server (server_is w (down was) is) (was_is w (down was) is) (subst (λ (n : ℕ). ServerResumes was n server) at new))))
  acted is (has_limit now rows server) at comes =
      subst (λ (c : Option ServerValue). Reaches w (record w { ends = with_server w.ends (Some (limited rows server)) c; sent = w.sent ++ [] })) (was_is w (up server) is) (quietly _ (by_limit rows server (server_is w (up server) is)))
  acted is (has_rows now rows server) at comes =
      subst (λ (c : Option ServerValue). Reaches w (record w { ends = with_server w.ends (Some (with_rows rows server)) c; sent = w.sent ++ [] })) (was_is w (up server) is) (quietly _ (by_rows rows server (server_is w (up server) is)))
  acted is (takes_turn now t old new read does) at comes = turn w old is at read does comes
  acted is (breaks_turn now failure old new read fails) at comes = broken w old is failure at read fails comes
  acted is (crashes now server) at comes = quietly _ (by_event (event.Crash 0) outcome.Done _ (crash_is_step 0 _ (server_crashes server (server_is w (up server) is))))

pub servers_act : ServersActIsARun
servers_act w before new act is lives at comes = acted w is lives at comes
