-- What each event makes of a world, as the code has found it: a line of the step, and a world that keeps what it kept.
use Rattle.std.proofs.Common.{◌≡◌, ℕ, zero, suc, Bool, true, false, cond, List, length, ltb, get_or, Some, None, refl, sym, ap, subst, ◌∙◌}
use Rattle.std.specs.Prelude.{slice_get, Contains, MatchBool, Result, Ok, Err, IfOk}
use Rattle.std.proofs.lemmas.Bool.{ltb-true, ltb-false}
use Rattle.std.proofs.lemmas.Option.{slice_get_read, slice_get_past, slice_get_within, get_or_from_slice_get, none-some}
use Rattle.nbt_name.specs.declared.addr.Addr.{Addr}
use Rattle.nbt_node.specs.Node.{NodeValue}
use Rattle.nbt_world.specs.declared.ends.Ends.{Ends}
use Rattle.nbt_world.specs.declared.network.Datagram.{Datagram}
use Rattle.nbt_world.specs.declared.event.Event.{Event}
use Rattle.nbt_world.specs.declared.event.OutOfMemory.{OutOfMemory}
use Rattle.nbt_world.specs.declared.event.Outcome.{Outcome}
use Rattle.nbt_world.specs.declared.event.Outcome.TheVariants as o
use Rattle.nbt_world.specs.Drift.{reading}
use Rattle.nbt_world.specs.World.{WorldValue, addr_of, node_of, with_node}
use Rattle.nbt_world.specs.Step.{number_in, CallOutcomeValue, NodeDoes, after, outcome_of, TakenValue, EndTakes, after_taking, outcome_of_taking, Step, node_does, node_is_down}
use Rattle.nbt_world.specs.Inner.Kept.{IsNodeOf, Invariant}
use Rattle.nbt_world.proofs.Keeping.{addr_there}
use Rattle.nbt_world.specs.Inner.Handing.{Origin, HandsOver}
use Rattle.nbt_world.proofs.Naming.{Laws, up_at}
use Rattle.nbt_world.proofs.Events.{does_kept}
use Rattle.nbt_world.proofs.Deliveries.{taking_kept}
use Rattle.nbt_world.proofs.Granting.{LeaseLaws}

-- nothing has changed
pub same_world : (w : WorldValue) (ends : Ends) (sent : List Datagram) → ends ≡ w.ends → sent ≡ w.sent → w ≡ record w { ends = ends; sent = sent }
same_world w ends sent p q = λ i. record w { ends = sym p i; sent = sym q i }

pub node_is_of : (w : WorldValue) (n : ℕ) (node : NodeValue) → Invariant w → node_of w.ends n ≡ Some node → (addr : Addr) × IsNodeOf w n addr node
node_is_of w n node kept up = let there = addr_there w.ends n node up in (there.0, kept.nodes n there.0 node there.1 up)

-- ---- an end starts, crashes or resumes: it has changed as the event says, or there was nothing to do

pub turned_kept : {P : Type 0} (Q : Type 0) (w : WorldValue) (ends : Ends) (b : Bool) → Invariant w → (P → Invariant (record w { ends = ends })) → MatchBool b P (Q × (ends ≡ w.ends)) → Invariant (record w { ends = ends })
turned_kept Q w ends true kept turns is = turns is
turned_kept Q w ends false kept turns is = subst (λ (x : Ends). Invariant (record w { ends = x })) (sym is.1) kept

pub has_turned : {P Q : Type 0} (w : WorldValue) (event : Event) (ends : Ends) (b : Bool) → (P → Step w event o.Done (record w { ends = ends })) → (Q → Step w event o.Nothing w) → MatchBool b P (Q × (ends ≡ w.ends))
    → Step w event (cond b o.Done o.Nothing) (record w { ends = ends })
has_turned w event ends true turns stays is = turns is
has_turned w event ends false turns stays is = subst (λ (x : Ends). Step w event o.Nothing (record w { ends = x })) (sym is.1) (stays is.0)

-- ---- a node does something

pub stays_down : {w : WorldValue} {event : Event} {number : ℕ} {ends : Ends} {sent : List Datagram} → ends ≡ w.ends → sent ≡ w.sent → number_in event ≡ Some number → node_of w.ends number ≡ None
    → Step w event o.Down (record w { ends = ends; sent = sent })
stays_down {w} {event} {number} {ends} {sent} p q own down = subst (λ (x : WorldValue). Step w event o.Down x) (same_world w ends sent p q) (node_is_down event number own down)

-- what a node's call has left in the world, and what it gave
pub record Gave (w : WorldValue) (event : Event) (number : ℕ) (ends : Ends) (sent : List Datagram) (outcome : Outcome) : Type 0 where
  pub node : NodeValue
  pub new : NodeValue
  pub given : CallOutcomeValue
  pub own : number_in event ≡ Some number
  pub up : node_of w.ends number ≡ Some node
  pub does : NodeDoes node (reading w.now number) event new given
  pub ends_is : ends ≡ with_node w.ends number (Some new)
  pub outcome_is : outcome ≡ outcome_of w given
  pub left : after w number new given ≡ record w { ends = with_node w.ends number (Some new); sent = sent }

gave_world : {w : WorldValue} {event : Event} {number : ℕ} {ends : Ends} {sent : List Datagram} {outcome : Outcome} (g : Gave w event number ends sent outcome) → after w number g.new g.given ≡ record w { ends = ends; sent = sent }
gave_world {w} {sent = sent} g = g.left ∙ ap (λ (x : Ends). record w { ends = x; sent = sent }) (sym g.ends_is)

pub does_at : Laws → {w : WorldValue} {node new : NodeValue} {event : Event} {given : CallOutcomeValue} → Invariant w → (n : ℕ) → node_of w.ends n ≡ Some node → NodeDoes node (reading w.now n) event new given → Invariant (after w n new given)
does_at law {node = node} kept zero up does = absurd (none-some node up)
does_at law kept (suc i) up does = does_kept law.one_message (up_at law.rests i kept up) does

pub gave_kept : Laws → {w : WorldValue} {event : Event} {number : ℕ} {ends : Ends} {sent : List Datagram} {outcome : Outcome} → Invariant w → Gave w event number ends sent outcome → Invariant (record w { ends = ends; sent = sent })
gave_kept law {number = number} kept g = subst Invariant (gave_world g) (does_at law kept number g.up g.does)

pub gave_step : {w : WorldValue} {event : Event} {number : ℕ} {ends : Ends} {sent : List Datagram} {outcome : Outcome} → Gave w event number ends sent outcome → Step w event outcome (record w { ends = ends; sent = sent })
gave_step {w} {event} {number} {ends} {sent} g =
    subst (λ (x : Outcome). Step w event x (record w { ends = ends; sent = sent })) (sym g.outcome_is)
    (subst (λ (x : WorldValue). Step w event (outcome_of w g.given) x) (gave_world g) (node_does event number g.node g.new g.given g.own g.up g.does))

-- ---- an end takes a datagram

-- what taking it has left in the world
pub record Took (w : WorldValue) (from to : Addr) (octets : List ℕ) (number : ℕ) (ends : Ends) (sent : List Datagram) (outcome : Outcome) : Type 0 where
  pub taken : TakenValue
  pub at : addr_of w.ends number ≡ Some to
  pub does : EndTakes (reading w.now number) w.ends from octets number taken ends
  pub origin : Origin w from to octets
  pub outcome_is : outcome ≡ outcome_of_taking w taken
  pub left : after_taking w ends to from taken ≡ record w { ends = ends; sent = sent }

pub took_kept : Laws → LeaseLaws → {w : WorldValue} {from to : Addr} {octets : List ℕ} {number : ℕ} {ends : Ends} {sent : List Datagram} {outcome : Outcome} → Invariant w → Took w from to octets number ends sent outcome
    → Invariant (record w { ends = ends; sent = sent })
took_kept law laws kept k = subst Invariant k.left (taking_kept law laws (record { kept = kept; at = k.at; origin = k.origin }) k.does)

pub took_over : {w : WorldValue} {from to : Addr} {octets : List ℕ} {number : ℕ} {ends : Ends} {sent : List Datagram} {outcome : Outcome} → Took w from to octets number ends sent outcome
    → HandsOver w number from to octets outcome (record w { ends = ends; sent = sent })
took_over {ends = ends} k = record { taken = k.taken; ends = ends; takes = k.does; outcome_is = k.outcome_is; new_is = sym k.left }

-- a delivery, and a stranger's datagram, is what handing it over makes of the world
pub hands_step : (w new : WorldValue) (number : ℕ) (from to : Addr) (octets : List ℕ) (event : Event) (result : Result Outcome OutOfMemory) → IfOk result (λ outcome. HandsOver w number from to octets outcome new)
    → ((taken : TakenValue) (ends : Ends) → EndTakes (reading w.now number) w.ends from octets number taken ends → Step w event (outcome_of_taking w taken) (after_taking w ends to from taken))
    → IfOk result (λ outcome. Step w event outcome new)
hands_step w new number from to octets event (Ok outcome) h step =
    subst (λ (x : Outcome). Step w event x new) (sym h.outcome_is) (subst (λ (x : WorldValue). Step w event (outcome_of_taking w h.taken) x) (sym h.new_is) (step h.taken h.ends h.takes))
hands_step w new number from to octets event (Err fault) h step = h

-- ---- the datagrams of the list

pub not_there : (sent : List Datagram) (k : ℕ) → false ≡ ltb k (length sent) → slice_get sent k ≡ None
not_there sent k p = slice_get_past sent k (ltb-false k (length sent) (sym p))

pub there_is : (sent : List Datagram) (k : ℕ) (d : Datagram) → true ≡ ltb k (length sent) → d ≡ get_or sent k d → slice_get sent k ≡ Some d
there_is sent k d p q = slice_get_read sent (length sent) k d refl (ltb-true k (length sent) (sym p)) q

pub not_there_in : (xs sent : List Datagram) (k : ℕ) → xs ≡ sent → false ≡ ltb k (length xs) → slice_get sent k ≡ None
not_there_in xs sent k same p = subst (λ (ys : List Datagram). slice_get ys k ≡ None) same (not_there xs k p)

pub there_in : (xs sent : List Datagram) (k : ℕ) (d : Datagram) → xs ≡ sent → true ≡ ltb k (length xs) → d ≡ get_or xs k d → slice_get sent k ≡ Some d
there_in xs sent k d same p q = subst (λ (ys : List Datagram). slice_get ys k ≡ Some d) same (there_is xs k d p q)

pub found_among : (sent : List Datagram) (k : ℕ) (d : Datagram) → slice_get sent k ≡ Some d → Contains sent d
found_among sent k d is = (k, slice_get_within sent k d is, get_or_from_slice_get sent k d d is)
