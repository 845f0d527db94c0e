-- A file of networks, line by line.
use Rattle.std.proofs.Common.{◌≡◌, ℕ, ◌+◌, ◌<◌, List, [], length, drop, sym, ap, subst, arith, slice_index_or, Bor}
use Rattle.std.proofs.lemmas.List.{drop_more}
use Rattle.nbt_text.specs.Texts.{texts}
use Rattle.nbt_text.specs.Lines.{lines}
use Rattle.nbt_front.specs.Networks.{NetworkValue}
use Rattle.nbt_front.specs.Inner.NetworkLines.{IsRefusedFor, fault_at}
use Rattle.nbt_front.specs.declared.network_file.NotNamed.{NotNamed}
use Rattle.nbt_front.specs.declared.network_file.NotNamed.TheVariants.{Line, Memory}
use Rattle.nbt_front.specs.NetworkFiles.{Names, NamesNone, NetworksFail, ReadsNetworks, no_line, one_line, FailsNetworks, at_this, behind}
use Rattle.nbt_front.specs.declared.network_file.NetworkFault.{NetworkFault}

module _ (all : List (Bor (List ℕ))) (i : ℕ) (names : List NetworkValue) where
  -- what the lines from there on add comes behind what is there
  abbrev pub SoFar : Type 0
  SoFar = (more : List NetworkValue) → ReadsNetworks names (texts (drop i all)) more → ReadsNetworks [] (texts all) more

  -- and their first fault is that many lines behind
  abbrev pub Failing : Type 0
  Failing = (number : ℕ) (fault : NetworkFault) → FailsNetworks names (texts (drop i all)) number fault → FailsNetworks [] (texts all) (i + number) fault

  module _ (d : Bor (List ℕ)) (within : i < length all) where
    pub one_more : (new : List NetworkValue) → Names names (slice_index_or all i d).now new → SoFar → (more : List NetworkValue) → ReadsNetworks new (texts (drop (i + 1) all)) more → ReadsNetworks [] (texts all) more
    one_more new takes before more reads =
        before more (subst (λ (ls : List (List ℕ)). ReadsNetworks names ls more) (ap texts (sym (drop_more all i d within))) (one_line names new more (slice_index_or all i d).now (texts (drop (i + 1) all)) takes reads))

    pub later_fault : (new : List NetworkValue) → Names names (slice_index_or all i d).now new → Failing → (number : ℕ) (fault : NetworkFault) → FailsNetworks new (texts (drop (i + 1) all)) number fault
        → FailsNetworks [] (texts all) (i + 1 + number) fault
    later_fault new takes before number fault fails =
        let same : i + (number + 1) ≡ i + 1 + number = omega arith in
        subst (λ (n : ℕ). FailsNetworks [] (texts all) n fault) same
        (before (number + 1) fault (subst (λ (ls : List (List ℕ)). FailsNetworks names ls (number + 1) fault) (ap texts (sym (drop_more all i d within))) (behind names new (slice_index_or all i d).now (texts (drop (i + 1) all)) number fault takes fails)))

    pub fault_here : (fault : NetworkFault) → NamesNone names (slice_index_or all i d).now fault → Failing → FailsNetworks [] (texts all) (i + 1) fault
    fault_here fault fails before =
        before 1 fault (subst (λ (ls : List (List ℕ)). FailsNetworks names ls 1 fault) (ap texts (sym (drop_more all i d within))) (at_this names (slice_index_or all i d).now (texts (drop (i + 1) all)) fault fails))

    pub refused_here : (text : List ℕ) → texts all ≡ lines text → (refused : NotNamed) → IsRefusedFor (NamesNone names (slice_index_or all i d).now) refused → Failing → NetworksFail text (fault_at (i + 1) refused)
    refused_here text are (Line fault) fails before = subst (λ (ls : List (List ℕ)). FailsNetworks [] ls (i + 1) fault) are (fault_here fault fails before)
    refused_here text are Memory fails before = tt

  pub all_read : drop i all ≡ [] → SoFar → ReadsNetworks [] (texts all) names
  all_read over before = before names (subst (λ (ls : List (List ℕ)). ReadsNetworks names ls names) (ap texts (sym over)) (no_line names))
