-- The requests of names, one after the other.
use Rattle.std.proofs.Common.{◌≡◌, ℕ, ◌+◌, ◌<◌, true, false, List, [], ◌∷◌, ◌++◌, length, take, drop, get_or, refl, sym, subst, ◌∙◌, ap, arith, None, Ok, Err, Some}
use Rattle.std.specs.Prelude.{Option, Result, OnOk, OnErr, is_ok, if◌then◌else◌}
use Rattle.std.specs.Result.{result_err}
use Rattle.std.proofs.lemmas.List.{take_more, take_all, drop_more, take-append-drop}
use Rattle.nbt_name.specs.declared.addr.Addr.{Addr}
use Rattle.nbt_node.specs.declared.fault.AskFault.{AskFault}
use Rattle.nbt_node.specs.declared.fault.ReleaseFault.{ReleaseFault}
use Rattle.nbt_node.specs.Node.{NodeValue}
use Rattle.nbt_node.specs.Moves.{ask, give_back}
use Rattle.nbt_node.specs.Calls.{ask_refusal, release_refusal, Sends}
use Rattle.nbt_port.specs.declared.port.Device.{Device}
use Rattle.nbt_port.specs.PortCalls.{PortCall, sent, send_failed, sending, route_to, Chain}
use Rattle.nbt_port.proofs.Chains.{chain_one, chain-append}
use Rattle.nbt_host.specs.declared.goal.Goal.{Goal}
use Rattle.nbt_host.specs.declared.goal.Stage.{Stage}
use Rattle.nbt_host.specs.declared.goal.Stage.TheVariants.{Wanted, Leaving, Released, Left, Doubtful}
use Rattle.nbt_host.specs.Goals.{may_ask}
use Rattle.nbt_host.specs.Hosting.{sending_to, is_wanted, Requests, asks, may_not_ask, gives_back, may_not_give_back, RequestsAll, of_none, of_next, BreaksRequests, at_request}

abbrev pub Requested : {P : Type 0} → (P → PortCall → P → Type 0) → Addr → ℕ → P → NodeValue → List Goal → P → NodeValue → Type 0
Requested does server now p s goals q t = (acts : List PortCall) × RequestsAll server now s goals acts t × Chain does p acts q

pub requested_none : {P : Type 0} (does : P → PortCall → P → Type 0) (server : Addr) (now : ℕ) (p : P) (s : NodeValue) → Requested does server now p s [] p s
requested_none does server now p s = ([], of_none, refl)

-- one more
pub requested_on : {P : Type 0} (does : P → PortCall → P → Type 0) (server : Addr) (now : ℕ) (p q r : P) (s t u : NodeValue) (goals : List Goal) (i : ℕ) (goal : Goal) → i < length goals → goal ≡ get_or goals i goal
    → Requested does server now p s (take i goals) q t → ((request : Option (List ℕ)) × Requests now t goal request u × Chain does q (sending_to (route_to server) request) r)
    → Requested does server now p s (take (i + 1) goals) r u
requested_on does server now p q r s t u goals i goal lt is x y = (
  x.0 ++ sending_to (route_to server) y.0,
  subst (λ (gs : List Goal). RequestsAll server now s gs (x.0 ++ sending_to (route_to server) y.0) u) (ap (λ (g : Goal). take i goals ++ g ∷ []) is ∙ sym (take_more goals i goal lt)) (of_next (take i goals) goal x.0 y.0 t u x.1 y.1),
  chain-append does p q r x.0 (sending_to (route_to server) y.0) x.2 y.2,
)

pub requested_all : {P : Type 0} (does : P → PortCall → P → Type 0) (server : Addr) (now : ℕ) (p q : P) (s t : NodeValue) (goals : List Goal) (i : ℕ) → i ≡ length goals
    → Requested does server now p s (take i goals) q t → Requested does server now p s goals q t
requested_all does server now p q s t goals i end x = (x.0, subst (λ (gs : List Goal). RequestsAll server now s gs x.0 t) (take_all i goals (omega (arith, end))) x.1, x.2)

-- a list round one of its places
split_at : (goals : List Goal) (i : ℕ) (goal : Goal) → i < length goals → goal ≡ get_or goals i goal → goals ≡ take i goals ++ goal ∷ drop (i + 1) goals
split_at goals i goal lt is = sym (take-append-drop i goals) ∙ ap (λ (rest : List Goal). take i goals ++ rest) (drop_more goals i goal lt ∙ ap (λ (g : Goal). g ∷ drop (i + 1) goals) (sym is))

pub requests_broken : {P : Type 0} (does : P → PortCall → P → Type 0) (server : Addr) (now : ℕ) (p q r : P) (s t u : NodeValue) (goals : List Goal) (i : ℕ) (goal : Goal) → i < length goals → goal ≡ get_or goals i goal
    → Requested does server now p s (take i goals) q t → ((octets : List ℕ) × Requests now t goal (Some octets) u × does q (send_failed (route_to server) octets) r)
    → (acts : List PortCall) × BreaksRequests server now s goals acts u × Chain does p acts r
requests_broken does server now p q r s t u goals i goal lt is x y = (
  x.0 ++ send_failed (route_to server) y.0 ∷ [],
  subst (λ (gs : List Goal). BreaksRequests server now s gs (x.0 ++ send_failed (route_to server) y.0 ∷ []) u) (sym (split_at goals i goal lt is)) (at_request (take i goals) (drop (i + 1) goals) goal x.0 y.0 t u x.1 y.1),
  chain-append does p q r x.0 (send_failed (route_to server) y.0 ∷ []) x.2 (chain_one does q (send_failed (route_to server) y.0) r y.2),
)

-- ---- one request, by what its sending returned

pub request_sent : {P A : Type 0} (does : P → PortCall → P → Type 0) (server : Addr) (now : ℕ) (p q : P) (s t : NodeValue) (goal : Goal) (out : List ℕ) (result : Result A Device) → Requests now s goal (Some out) t
    → does p (sending (route_to server) out result) q → OnOk result ((request : Option (List ℕ)) × Requests now s goal request t × Chain does p (sending_to (route_to server) request) q)
request_sent does server now p q s t goal out (Ok done) x did = (Some out, x, chain_one does p (sent (route_to server) out) q did)
request_sent does server now p q s t goal out (Err failure) x did = tt

pub request_lost : {P A : Type 0} (does : P → PortCall → P → Type 0) (server : Addr) (now : ℕ) (p q : P) (s t : NodeValue) (goal : Goal) (out : List ℕ) (result : Result A Device) → Requests now s goal (Some out) t
    → does p (sending (route_to server) out result) q → OnErr result ((octets : List ℕ) × Requests now s goal (Some octets) t × does p (send_failed (route_to server) octets) q)
request_lost does server now p q s t goal out (Ok done) x did = tt
request_lost does server now p q s t goal out (Err failure) x did = (out, x, did)

-- ---- the request about one name, by what the node returned

pub not_wanted : (stage : Stage) → (stage ≡ Wanted → ⊥) → is_wanted stage ≡ false
not_wanted Wanted other = absurd (other refl)
not_wanted Leaving other = refl
not_wanted Released other = refl
not_wanted (Left rcode) other = refl
not_wanted Doubtful other = refl

pub asked_by : (now : ℕ) (old new : NodeValue) (goal : Goal) (out : List ℕ) (result : Result (Unit {0}) AskFault) → is_wanted goal.stage ≡ true → may_ask now goal.refusal ≡ true → result_err result ≡ ask_refusal old now goal.want.name
    → OnOk result (Sends old now goal.want.name (ask goal.want.kind goal.want.ttl) new out) → OnErr result ((new ≡ old) × (out ≡ [])) → Requests now old goal (if is_ok result then Some out else None) new
asked_by now old new goal out (Ok done) wanted may refused sends same = asks out new wanted may (record { may = sym refused; sends = sends })
asked_by now old new goal out (Err fault) wanted may refused sends same = subst (λ (n : NodeValue). Requests now old goal None n) (sym same.0) (may_not_ask fault wanted may (sym refused))

pub released_by : (now : ℕ) (old new : NodeValue) (goal : Goal) (out : List ℕ) (result : Result (Unit {0}) ReleaseFault) → is_wanted goal.stage ≡ false → result_err result ≡ release_refusal old now goal.want.name
    → OnOk result (Sends old now goal.want.name give_back new out) → OnErr result ((new ≡ old) × (out ≡ [])) → Requests now old goal (if is_ok result then Some out else None) new
released_by now old new goal out (Ok done) other refused sends same = gives_back out new other (sym refused) sends
released_by now old new goal out (Err fault) other refused sends same = subst (λ (n : NodeValue). Requests now old goal None n) (sym same.0) (may_not_give_back fault other (sym refused))
