-- One turn of a server, by what its port, its clock and its server returned.
use Rattle.std.proofs.Common.{◌≡◌, ℕ, true, false, List, [], ◌∷◌, refl, sym, ◌∙◌, subst, Option, None, Some, Ok, Err}
use Rattle.std.specs.Prelude.{◌↔◌, ◌<◌, IsErrOf, is_some}
use Rattle.std.proofs.lemmas.Bool.{false≢true}
use Rattle.nbt_packet.specs.Message.{MessageValue}
use Rattle.nbt_packet.specs.Spelling.{AreWritten}
use Rattle.nbt_server.specs.Serving.{ServerValue}
use Rattle.nbt_server.specs.Outcomes.{has_reply, IsDone}
use Rattle.nbt_server.specs.Calls.{ServerTakes, ServerHandles, ServerForgets}
use Rattle.nbt_server.specs.declared.fault.ServerFault.{ServerFault}
use Rattle.nbt_server.specs.declared.fault.ServerFault.TheVariants as faults
use Rattle.nbt_server.specs.declared.outcome.Outcome.{Outcome}
use Rattle.nbt_port.specs.declared.port.Route.{Route}
use Rattle.nbt_port.specs.PortCalls.{PortCall, nothing_came, came, sent, send_failed, receiving, Chain}
use Rattle.nbt_serve.specs.Serving.{Turn, is_empty, is_taken, is_lost, of_send, acts_in, moments_in, counts_of, Turns, passes, takes, goes_back, has_no_memory, IsLogged, WatchesTurn, Runs, Breaks}
use Rattle.nbt_port.proofs.Chains.{chain_one}
use Rattle.nbt_serve.proofs.ServerTurns.{runs_one, breaks_one}
use Rattle.nbt_serve.specs.declared.serving.Counts.{Counts}
use Rattle.nbt_log.specs.Kinds.{entry_of}
use Rattle.nbt_log.specs.declared.entry.Entry.{Entry}

-- a datagram came
came_so : {P : Type 0} (does : P → PortCall → P → Type 0) (p q : P) (found : Option Route) (from : Route) (octets : List ℕ) → found ≡ Some from → does p (receiving (Ok found) octets) q → does p (came from octets) q
came_so does p q found from octets some did = subst (λ o. does p (receiving (Ok o) octets) q) some did

-- what the log has of a turn, and what is counted of it
abbrev pub Served : {P C : Type 0} → (P → PortCall → P → Type 0) → (C → ℕ → C → Type 0) → P → C → ServerValue → Option Entry → Counts → P → C → ServerValue → Type 0
Served does tells p c old entry counts q d new = WatchesTurn does tells p c old entry q d new × Runs does tells 1 counts p c old q d new

served : {P C : Type 0} (does : P → PortCall → P → Type 0) (tells : C → ℕ → C → Type 0) (turn : Turn) (entry : Option Entry) (p q : P) (c d : C) (old new : ServerValue) (server : Turns old turn new)
    → Chain does p (acts_in turn) q → Chain tells c (moments_in turn) d → IsLogged server entry → Served does tells p c old entry (counts_of (turn ∷ [])) q d new
served does tells turn entry p q c d old new server did told logged =
    (record { turn = turn; server = server; port_did = did; clock_told = told; entry_is = logged }, runs_one does tells turn _ p q c d old new refl server did told)

-- nothing is logged of a datagram that was lost
logged_none : {old new : ServerValue} {now : ℕ} {from : Route} {octets : List ℕ} (lost : Turns old (is_lost now from octets) new) → IsLogged lost None
logged_none (goes_back now from octets early) = refl
logged_none (has_no_memory now from octets new forgets) = refl

pub served_empty : {P C : Type 0} (does : P → PortCall → P → Type 0) (tells : C → ℕ → C → Type 0) (p q : P) (c : C) (old : ServerValue) (found : Option Route) (octets : List ℕ)
    → found ≡ None → does p (receiving (Ok found) octets) q → Served does tells p c old None (record { receives = 1; replies = 0; lost = 0 }) q c old
served_empty does tells p q c old found octets none did =
    served does tells is_empty None p q c c old old passes (chain_one does p nothing_came q (subst (λ o. does p (receiving (Ok o) octets) q) none did)) refl refl

module _ {P C : Type 0} (does : P → PortCall → P → Type 0) (tells : C → ℕ → C → Type 0) (p q : P) (c d : C) (old new : ServerValue) (found : Option Route) (from : Route) (octets : List ℕ) (now : ℕ)
    (some : found ≡ Some from) (did : does p (receiving (Ok found) octets) q) (told_clock : tells c now d) where
  pub served_lost : Turns old (is_lost now from octets) new → Served does tells p c old None (record { receives = 1; replies = 0; lost = 1 }) q d new
  served_lost lost =
      served does tells (is_lost now from octets) None p q c d old new lost (chain_one does p (came from octets) q (came_so does p q found from octets some did)) (chain_one tells c now d told_clock) (logged_none lost)

  module _ (out : List ℕ) (outcome : Outcome) where
    -- what the log has of it
    abbrev logged : Option Entry
    logged = Some (entry_of from.peer octets outcome)

    silent : (reply : Option MessageValue) (took : ServerTakes old now from.peer.ip octets reply new) → IsDone took.serves outcome → is_some reply ≡ false → Served does tells p c old logged (record { receives = 1; replies = 0; lost = 0 }) q d new
    silent (Some reply) took done none = absurd (false≢true (sym none))
    silent None took done none =
        served does tells (is_taken now from octets None) logged p q c d old new (takes now from octets None new took)
        (chain_one does p (came from octets) q (came_so does p q found from octets some did)) (chain_one tells c now d told_clock) (outcome, done, refl)

    pub served_silent : ServerHandles old now from.peer.ip octets outcome out new → has_reply outcome ≡ false → Served does tells p c old logged (record { receives = 1; replies = 0; lost = 0 }) q d new
    served_silent h none = silent h.reply h.takes h.done (sym h.has_reply_is ∙ none)

    replied : (r : P) (reply : Option MessageValue) (took : ServerTakes old now from.peer.ip octets reply new) → IsDone took.serves outcome → AreWritten reply out → is_some reply ≡ true → does q (sent from out) r
        → Served does tells p c old logged (record { receives = 1; replies = 1; lost = 0 }) r d new
    replied r None took done written is sends = absurd (false≢true is)
    replied r (Some reply) took done written is sends =
        served does tells (is_taken now from octets (Some reply)) logged p r c d old new (takes now from octets (Some reply) new took)
        (q, came_so does p q found from octets some did, (r, subst (λ xs. does q (sent from xs) r) written.0 sends, refl)) (chain_one tells c now d told_clock) (outcome, done, refl)

    pub served_replied : (r : P) → ServerHandles old now from.peer.ip octets outcome out new → has_reply outcome ≡ true → does q (sent from out) r
        → Served does tells p c old logged (record { receives = 1; replies = 1; lost = 0 }) r d new
    served_replied r h is sends = replied r h.reply h.takes h.done h.written (sym h.has_reply_is ∙ is) sends

    unsent : (r : P) (reply : Option MessageValue) → ServerTakes old now from.peer.ip octets reply new → AreWritten reply out → is_some reply ≡ true → does q (send_failed from out) r → Breaks does tells 1 p c old r d new
    unsent r None took written is fails = absurd (false≢true is)
    unsent r (Some reply) took written is fails =
        breaks_one does tells (of_send now from octets reply) p r c d old new took
        (q, came_so does p q found from octets some did, (r, subst (λ xs. does q (send_failed from xs) r) written.0 fails, refl)) (chain_one tells c now d told_clock)

    pub served_unsent : (r : P) → ServerHandles old now from.peer.ip octets outcome out new → has_reply outcome ≡ true → does q (send_failed from out) r → Breaks does tells 1 p c old r d new
    served_unsent r h is fails = unsent r h.reply h.takes h.written (sym h.has_reply_is ∙ is) fails

-- a server refuses a datagram with one of two faults
pub lost_to : (old new : ServerValue) (now : ℕ) (from : Route) (seen octets : List ℕ) (fault : ServerFault) → seen ≡ octets → IsErrOf {T = Outcome} (Err fault) faults.ClockBack ↔ (now < old.last)
    → (IsErrOf {T = Outcome} (Err fault) faults.ClockBack → new ≡ old) → (IsErrOf {T = Outcome} (Err fault) faults.OutOfMemory → ServerForgets old now from.peer.ip seen new) → Turns old (is_lost now from octets) new
lost_to old new now from seen octets faults.ClockBack same back unchanged memory =
    subst (λ x. Turns old (is_lost now from octets) x) (sym (unchanged refl)) (goes_back now from octets (back.0 refl))
lost_to old new now from seen octets faults.OutOfMemory same back unchanged memory =
    has_no_memory now from octets new (subst (λ xs. ServerForgets old now from.peer.ip xs new) same (memory refl))
