use Rattle.std.proofs.Common.{◌≡◌, ◌∙◌, ℕ, ◌+◌, ◌<◌, List, [], ◌++◌, length, drop, Option, None, sym, ap, subst, append_assoc, slice_index_or, Bor}
use Rattle.std.proofs.lemmas.List.{append-nil, drop_more}
use Rattle.std.proofs.Math.ListN.{drop_of_length-le}
use Rattle.nbt_text.specs.Lines.{words}
use Rattle.nbt_text.specs.Texts.{texts}
use Rattle.nbt_port.specs.OwnAddresses.{Adds, no_line, one_line, Says, Steps}
use Rattle.nbt_port.specs.declared.machine_addresses.Line.{Line}
use Rattle.nbt_port.proofs.machine_addresses.own_addresses.Goals as goal

one_further : (all : List (Bor (List ℕ))) (i : ℕ) (d : Bor (List ℕ)) (leaf next : Option ℕ) (said : Line) (own later added : List ℕ) → i < length all → Says (words (slice_index_or all i d).now) said
    → Steps said leaf next added → later ≡ own ++ added → ((more : List ℕ) → Adds leaf (texts (drop i all)) more → Adds None (texts all) (own ++ more))
    → (more : List ℕ) → Adds next (texts (drop (i + 1) all)) more → Adds None (texts all) (later ++ more)
one_further all i d leaf next said own later added within says steps is before more adds =
    subst (λ (xs : List ℕ). Adds None (texts all) xs) (sym (append_assoc own added more) ∙ ap (λ (xs : List ℕ). xs ++ more) (sym is))
    (before (added ++ more) (subst (λ (ls : List (List ℕ)). Adds leaf ls (added ++ more)) (ap texts (sym (drop_more all i d within)))
    (one_line leaf next (slice_index_or all i d).now said (texts (drop (i + 1) all)) added more says steps adds)))

at_last : (all : List (Bor (List ℕ))) (list : List (List ℕ)) (i : ℕ) (leaf : Option ℕ) (own : List ℕ) → drop i all ≡ [] → texts all ≡ list
    → ((more : List ℕ) → Adds leaf (texts (drop i all)) more → Adds None (texts all) (own ++ more)) → Adds None list own
at_last all list i leaf own over is before =
    subst (λ (ls : List (List ℕ)). Adds None ls own) is (subst (λ (xs : List ℕ). Adds None (texts all) xs) (append-nil own)
    (before [] (subst (λ (ls : List (List ℕ)). Adds leaf ls []) (ap texts (sym over)) (no_line leaf))))

pub loop-line-preserved : goal.loop-line-preserved
loop-line-preserved c =
    one_further c.as_slice-line-items.result.now c.loop-line.line-index _ c.loop-line.leaf c.step.new.leaf c.in_ok-line_of.field-0 c.loop-line.own.items c.step.new.own.items c.in_ok-step.ensures.0
    c.loop-line-test.true c.in_ok-line_of.ensures c.in_ok-step.ensures.1 c.in_ok-step.ensures.2 c.loop-line.invariant

pub returns : goal.returns
returns c =
    at_last c.as_slice-line-items.result.now _ c.loop-line.line-index c.loop-line.leaf c.loop-line.own.items (drop_of_length-le c.as_slice-line-items.result.now c.loop-line-test.false)
    (ap texts c.as_slice-line-items.ensures.value ∙ c.in_ok-lines.ensures) c.loop-line.invariant
