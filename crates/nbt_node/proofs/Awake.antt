-- No slot has a name that is Idle.
use Rattle.std.proofs.Common.{◌≡◌, ℕ, zero, suc, List, [], ◌∷◌, map, Option, Some, None, sym, subst}
use Rattle.std.specs.Prelude.{replicate}
use Rattle.std.proofs.lemmas.Bool.{cond_both}
use Rattle.nbt_name.specs.Wire.{NameValue, same_name}
use Rattle.nbt_node.specs.declared.state.State.{State}
use Rattle.nbt_node.specs.declared.state.State.TheVariants.{Idle}
use Rattle.nbt_node.specs.declared.state.Slot.{Slot}
use Rattle.nbt_node.specs.Settling.{settled}
use Rattle.nbt_node.specs.Inner.Keeping.{AreAwake}
use Rattle.nbt_node.specs.Node.{is_in, slot_of, put, take_slot, with_state, settled_slot}

awake_step : (n : NameValue) (state : State) (rest : List (Option Slot)) → AreAwake rest → AreAwake (slot_of n state ∷ rest)
awake_step n Idle rest awake = awake
awake_step n _ rest awake = ((λ e. absurd cc), awake)

pub awake-settled : (life now : ℕ) (xs : List (Option Slot)) → AreAwake (map (settled_slot life now) xs)
awake-settled life now [] = tt
awake-settled life now (None ∷ rest) = awake-settled life now rest
awake-settled life now (Some s ∷ rest) = awake_step s.name (settled life now s.state) (map (settled_slot life now) rest) (awake-settled life now rest)

awake-put : (xs : List (Option Slot)) (name : NameValue) (state : State) → AreAwake xs → AreAwake (put xs name state)
awake-put [] name state awake = tt
awake-put (None ∷ rest) name state awake = awake-put rest name state awake
awake-put (Some s ∷ rest) name state awake =
    let behind = awake-put rest name state awake.1 in
    cond_both (same_name s.name name) (slot_of name state ∷ rest) (Some s ∷ put rest name state) AreAwake (λ e. awake_step name state rest awake.1) (λ e. (awake.0, behind))

awake-take : (xs : List (Option Slot)) (name : NameValue) (state : State) → AreAwake xs → AreAwake (take_slot xs name state)
awake-take [] name state awake = tt
awake-take (None ∷ rest) name state awake = awake_step name state rest awake
awake-take (Some s ∷ rest) name state awake = (awake.0, awake-take rest name state awake.1)

pub awake-with_state : (xs : List (Option Slot)) (name : NameValue) (state : State) → AreAwake xs → AreAwake (with_state xs name state)
awake-with_state xs name state awake = cond_both (is_in xs name) (put xs name state) (take_slot xs name state) AreAwake (λ e. awake-put xs name state awake) (λ e. awake-take xs name state awake)

awake-free : (n : ℕ) → AreAwake (replicate n None)
awake-free zero = tt
awake-free (suc n) = awake-free n

pub awake-none : (xs : List (Option Slot)) (n : ℕ) → xs ≡ replicate n None → AreAwake xs
awake-none xs n is = subst AreAwake (sym is) (awake-free n)
