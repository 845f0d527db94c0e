-- A turn by its parts, and turns up to the end of a lookup.
use Rattle.std.proofs.Common.{◌≡◌, ℕ, ◌+◌, Bool, true, false, List, [], ◌∷◌, ◌++◌, length, sym, ◌∙◌, subst, arith, length-append}
use Rattle.std.specs.Prelude.{◌<◌}
use Rattle.nbt_node.specs.Node.{NodeValue}
use Rattle.nbt_port.specs.PortCalls.{PortCall, receive_failed, Chain}
use Rattle.nbt_port.proofs.Chains.{chain_one, chain-append, chain_on}
use Rattle.nbt_client.specs.Turning.{PollsAll}
use Rattle.nbt_client.specs.declared.lookup.Ending.{Ending}
use Rattle.nbt_client.specs.declared.lookup.Ending.TheVariants as e
use Rattle.nbt_client.specs.declared.lookup_turn.Progress.TheVariants as g
use Rattle.nbt_client.specs.Lookups.{Looking, GoesOn, Waits, is_end, Ends, is_told, is_spent, Waited, BreaksTurn, at_receive, Broken}
use Rattle.nbt_client.specs.Inner.Steps.{TurnIs, HeardIs, Passed}

-- ---- one turn: its polls, and then its receive

module _ {P C : Type 0} (does : P → PortCall → P → Type 0) (tells : C → ℕ → C → Type 0) (limit first : ℕ) (a p q : P) (b c d : C) (r s t : NodeValue)
    (on : GoesOn limit r first) (told : tells b first c) (polls : (polling : List PortCall) × PollsAll first r polling s × Chain does a polling p) where
  pub turn_waits : (ended : Bool) (octets : List ℕ) → ended ≡ false → HeardIs does tells ended octets p c s q d t
      → TurnIs does tells limit g.Waits octets (record { port = a; clock = b; node = r }) (record { port = q; clock = d; node = t })
  turn_waits ended octets is h = (
    record { first = first; second = h.second; polling = polls.0; hearing = h.hearing },
    record {
      told = h.told;
      on = on;
      takes = record { polled = s; polls = polls.1; hears = h.hears };
      other = sym h.ended_is ∙ is;
      port_did = chain-append does a p q polls.0 (h.hearing ∷ []) polls.2 (chain_one does p h.hearing q h.port_did);
      clock_told = (c, told, chain_one tells c h.second d h.clock_told);
    },
  )

  pub turn_tells : (ended : Bool) (octets : List ℕ) → ended ≡ true → HeardIs does tells ended octets p c s q d t
      → TurnIs does tells limit g.Told octets (record { port = a; clock = b; node = r }) (record { port = q; clock = d; node = t })
  turn_tells ended octets is h = λ most count.
      let ends : is_end h.told ≡ true = sym h.ended_is ∙ is in
      let by = h.by ends in
      is_told by.0 octets (record { first = first; second = h.second; polling = polls.0; hearing = h.hearing }) h.told (record { port = q; clock = d; node = t }) on (record { polled = s; polls = polls.1; hears = h.hears }) ends by.1
      (chain-append does a p q polls.0 (h.hearing ∷ []) polls.2 (chain_one does p h.hearing q h.port_did)) (c, told, chain_one tells c h.second d h.clock_told)

  pub breaks_at_receive : does p receive_failed q × (t ≡ s) × (d ≡ c) → BreaksTurn does tells limit (record { port = a; clock = b; node = r }) (record { port = q; clock = d; node = t })
  breaks_at_receive x =
      at_receive first polls.0 on (subst (λ z. tells b first z) (sym x.2) told) (subst (λ (node : NodeValue). PollsAll first r polls.0 node) (sym x.1) polls.1)
      (chain-append does a p q polls.0 (receive_failed ∷ []) polls.2 (chain_one does p receive_failed q x.0))

-- ---- turns, and what ends them

module _ {P C : Type 0} (does : P → PortCall → P → Type 0) (tells : C → ℕ → C → Type 0) (limit count : ℕ) (old mid new : Looking P C) (x : Passed does tells limit count old mid) where
  pub passed_on : (octets : List ℕ) → TurnIs does tells limit g.Waits octets mid new → Passed does tells limit (count + 1) old new
  passed_on octets y = (x.0 ++ y.0 ∷ [], chain_on (Waits does tells limit) old mid new x.0 y.0 x.1 y.1, omega (arith, length-append x.0 (y.0 ∷ []), x.2))

  pub ended_by : (most : ℕ) (ending : Ending) (octets : List ℕ) → ((most count : ℕ) → Ends does tells limit most count mid ending octets new) → Waited does tells limit most ending octets old new
  ended_by most ending octets y = record { turns = x.0; mid = mid; waits = x.1; ends = y most (length x.0) }

  pub spent_at_last : (most : ℕ) (octets : List ℕ) → count ≡ most → Waited does tells limit most e.NoReply octets old mid
  spent_at_last most octets all = record { turns = x.0; mid = mid; waits = x.1; ends = is_spent octets (x.2 ∙ all) }

  pub broken_at_last : (most : ℕ) → count < most → BreaksTurn does tells limit mid new → Broken does tells limit most old new
  broken_at_last most less y = record { turns = x.0; mid = mid; waits = x.1; breaks = y; fewer = omega (arith, x.2, less) }
