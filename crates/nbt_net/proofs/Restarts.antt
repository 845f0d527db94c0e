-- A server's life by a clock that shows a constant more, and how it goes on after a restart.
use Rattle.std.proofs.Common.{ℕ, ◌+◌, List, [], ◌∷◌, ◌++◌, map, Some, None, sym, ap, ◌∙◌, arith}
use Rattle.nbt_lease.specs.Config.{ConfigValue}
use Rattle.nbt_port.specs.PortCalls.{Chain}
use Rattle.nbt_port.proofs.Chains.{chain-append}
use Rattle.nbt_server.specs.Serving.{ServerValue}
use Rattle.nbt_server.specs.Calls.{ServerResumes, limited}
use Rattle.nbt_server.specs.Shifted.{shifted_server, shifted_leases, TellsAlike, DoesAlike, StartsAlike}
use Rattle.nbt_serve.specs.Serving.{Turn, is_empty, is_taken, is_lost, Turns, passes, takes, goes_back, has_no_memory, acts_in as calls_in, moments_in, Failure, of_receive, of_send, acts_of as calls_of, moments_of, Fails}
use Rattle.nbt_net.specs.Wire.{Act}
use Rattle.nbt_net.specs.Servers.{ServerEnd, never_up, up, down, act_at, AreReadAt, ServerLives, starts, starts_anew, resumes, has_limit, has_rows, takes_turn, breaks_turn, crashes}
use Rattle.nbt_net.specs.Restarts.{later_act, later_end, LivesLater, RestartGoesOn}
use Rattle.nbt_net.specs.Starts.{StartResumesAnEarlierServer}
use Rattle.nbt_net.specs.Turns.{acts_before}
use Rattle.nbt_net.proofs.Rows.{resumes_with}
use Rattle.nbt_net.proofs.ServerTurns.{cut_by}

pub record ServerAlike : Type 0 where
  pub start : (more : ℕ) → StartsAlike more
  pub tells : (more : ℕ) (server : ServerValue) (now : ℕ) → TellsAlike more server now
  pub does : (more : ℕ) (old : ServerValue) (now ip : ℕ) (octets : List ℕ) (new : ServerValue) → DoesAlike more old now ip octets new

module _ (law : ServerAlike) (config : ConfigValue) (more : ℕ) where
  -- one act by the other clock
  abbrev Later : ServerEnd → Act → ServerEnd → Type 0
  Later old act new = ServerLives config (later_end more old) (later_act more act) (later_end more new)

  resumes_alike : {was server : ServerValue} {now : ℕ} → ServerResumes was now server → ServerResumes (shifted_server more was) (now + more) (shifted_server more server)
  resumes_alike {was} {server} {now} r =
      let was_called = r.was_called in
      let called = r.called in
      record {
        leases = (law.tells more server now).leases ∙ (ap (shifted_leases more) r.leases ∙ sym (law.tells more was now).leases);
        start = ap (λ (n : ℕ). n + more) r.start;
        config = r.config;
        limit = r.limit;
        was_called = omega (arith, was_called);
        called = omega (arith, called);
      }

  turn_later : {old new : ServerValue} {turn : Turn} (now : ℕ) → AreReadAt now (moments_in turn) → Turns old turn new → Later (up old) (record { now = now; calls = calls_in turn }) (up new)
  turn_later {old} now read passes = takes_turn (now + more) is_empty (shifted_server more old) (shifted_server more old) tt passes
  turn_later {old} now read (takes m from octets None new does) =
      takes_turn (now + more) (is_taken (m + more) from octets None) (shifted_server more old) (shifted_server more new) (ap (λ (n : ℕ). n + more) read.0, tt)
      (takes (m + more) from octets None (shifted_server more new) ((law.does more old m from.peer.ip octets new).takes None does))
  turn_later {old} now read (takes m from octets (Some reply) new does) =
      takes_turn (now + more) (is_taken (m + more) from octets (Some reply)) (shifted_server more old) (shifted_server more new) (ap (λ (n : ℕ). n + more) read.0, tt)
      (takes (m + more) from octets (Some reply) (shifted_server more new) ((law.does more old m from.peer.ip octets new).takes (Some reply) does))
  turn_later {old} now read (goes_back m from octets early) =
      takes_turn (now + more) (is_lost (m + more) from octets) (shifted_server more old) (shifted_server more old) (ap (λ (n : ℕ). n + more) read.0, tt) (goes_back (m + more) from octets (omega (arith, early)))
  turn_later {old} now read (has_no_memory m from octets new forgets) =
      takes_turn (now + more) (is_lost (m + more) from octets) (shifted_server more old) (shifted_server more new) (ap (λ (n : ℕ). n + more) read.0, tt)
      (has_no_memory (m + more) from octets (shifted_server more new) ((law.does more old m from.peer.ip octets new).forgets forgets))

  broken_later : (old new : ServerValue) (now : ℕ) (failure : Failure) → AreReadAt now (moments_of failure) → Fails old failure new → Later (up old) (record { now = now; calls = calls_of failure }) (up new)
  broken_later old new now of_receive read fails = breaks_turn (now + more) of_receive (shifted_server more old) (shifted_server more new) tt (ap (shifted_server more) fails)
  broken_later old new now (of_send m from octets reply) read fails =
      breaks_turn (now + more) (of_send (m + more) from octets reply) (shifted_server more old) (shifted_server more new) (ap (λ (n : ℕ). n + more) read.0, tt) ((law.does more old m from.peer.ip octets new).takes (Some reply) fails)

  later : {old new : ServerEnd} {act : Act} → ServerLives config old act new → Later old act new
  later (starts now server is) = starts (now + more) (shifted_server more server) (law.start more config now server is)
  later (starts_anew now was server is) = starts_anew (now + more) (shifted_server more was) (shifted_server more server) (law.start more config now server is)
  later (resumes now was server is) = resumes (now + more) (shifted_server more was) (shifted_server more server) (resumes_alike is)
  later (has_limit now rows server) = has_limit (now + more) rows (shifted_server more server)
  later (has_rows now rows server) = has_rows (now + more) rows (shifted_server more server)
  later (takes_turn now turn old new read does) = turn_later now read does
  later (breaks_turn now failure old new read fails) = broken_later old new now failure read fails
  later (crashes now server) = crashes (now + more) (shifted_server more server)

  pub all_later : (acts : List Act) (old new : ServerEnd) → Chain (ServerLives config) old acts new → Chain (ServerLives config) (later_end more old) (map (later_act more) acts) (later_end more new)
  all_later [] old new chain = ap (later_end more) chain
  all_later (act ∷ acts) old new chain = (later_end more chain.0, later chain.1, all_later acts chain.0 new chain.2)

pub lives_later : ServerAlike → LivesLater
lives_later law config more old new acts chain = all_later law config more acts old new chain

pub restart_goes_on : ServerAlike → StartResumesAnEarlierServer → RestartGoesOn
restart_goes_on law start config kept last old new seen begins runs limits before behind left calls_are may f b found begun none at acts so_far =
    let s = start kept last old new seen begins runs limits before behind left calls_are may f b found begun none in
    let cut = cut_by config old.server s.0 in (
      cut,
      λ steady.
          let r = s.1 steady in (
            r,
            chain-append (ServerLives config) never_up (later_end r.shift (down s.0.server)) (up (limited s.0.server.client_rows b.server)) (map (later_act r.shift) (acts ++ (acts_before s.0 ++ act_at at ∷ []))) (act_at b.server.last ∷ act_at b.server.last ∷ [])
                (all_later law config r.shift (acts ++ (acts_before s.0 ++ act_at at ∷ [])) never_up (down s.0.server) (chain-append (ServerLives config) never_up (up old.server) (down s.0.server) acts (acts_before s.0 ++ act_at at ∷ []) so_far ((cut_by config old.server s.0).lives at)))
                (resumes_with config b.server.last f.config.rows (shifted_server r.shift s.0.server) (limited s.0.server.client_rows b.server) r.resumes),
          ),
    )
