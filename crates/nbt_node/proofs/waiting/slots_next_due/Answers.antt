use Rattle.std.proofs.Common.{◌≡◌, ℕ, Bool, List, [], ◌∷◌, ◌++◌, map, take, Option, sym, ap, subst, ◌∙◌}
use Rattle.std.specs.Prelude.{◌||◌, is_some}
use Rattle.std.proofs.lemmas.List.{take_more, map-append, take_all}
use Rattle.nbt_node.specs.declared.state.Slot.{Slot}
use Rattle.nbt_node.specs.Node.{settled_slot}
use Rattle.nbt_node.specs.Calls.{first_due}
use Rattle.nbt_node.specs.Waiting.{IsFirst}
use Rattle.nbt_node.proofs.FirstTimes.{same_first, one_more}
use Rattle.nbt_node.proofs.waiting.slots_next_due.Goals as goal

abbrev sends : (life : ℕ) → List (Option Slot) → ℕ → Bool
sends life slots now = is_some (first_due life now (map (settled_slot life now) slots))

with_one_more : (life : ℕ) (some more : List (Option Slot)) (slot : Option Slot) → more ≡ some ++ slot ∷ [] → (now : ℕ) → sends life more now ≡ (sends life some now || is_some (first_due life now (settled_slot life now slot ∷ [])))
with_one_more life some more slot is now =
    ap (λ (slots : List (Option Slot)). sends life slots now) is ∙ ap (λ (slots : List (Option Slot)). is_some (first_due life now slots)) (map-append (settled_slot life now) some (slot ∷ [])) ∙ one_more life now (map (settled_slot life now) some) (settled_slot life now slot)

pub loop-slot-preserved : goal.loop-slot-preserved
loop-slot-preserved c =
    let life = c.args.config.life in let xs = c.args.slots.now in let i = c.loop-slot.slot-index in let slot = c.slot-item.result in
    same_first _ _ c.args.since c.earlier-next.result
    (with_one_more life (take i xs) _ slot (take_more xs i slot c.loop-slot-test.true ∙ ap (λ (s : Option Slot). take i xs ++ s ∷ []) (sym c.slot-item.is)))
    (c.earlier-next.ensures (sends life (take i xs)) (λ now. is_some (first_due life now (settled_slot life now slot ∷ []))) c.args.since c.loop-slot.invariant c.slot_next_due.ensures)

pub returns : goal.returns
returns c =
    let xs = c.args.slots.now in
    subst (λ (slots : List (Option Slot)). IsFirst (sends c.args.config.life slots) c.args.since c.loop-slot.next) (take_all c.loop-slot.slot-index xs c.loop-slot-test.false) c.loop-slot.invariant
