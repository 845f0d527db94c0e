use Rattle.nbt_c.proofs.Common.{◌≡◌, ◌++◌, ◌∷◌, [], ℕ, List, length, sym, ◌∙◌, ap, subst, arith, append_assoc, append-nil, length-append, take-append-drop, PrintsLabels, label_printed, none_printed, dot, nothing_left_over}
use Rattle.nbt_name.proofs.Scopes.{IsScope-parts}
use Rattle.nbt_c.proofs.words.labels_of.Goals as goal

pub labels-preserved : goal.labels-preserved
labels-preserved c =
    let parts = IsScope-parts c.labels.rest.now c.in-Some.field-0-0.now c.in-Some.labels.now c.labels.invariant.is_scope c.in-Some.ensures.cases.0 in
    let label = c.split_at.result.0.now in
    let others = c.split_at.result.1.now in
    let before = c.labels.out.items in
    let component = c.put_label.ensures in
    let count_is : length label ≡ c.in-Some.field-0-0.now = c.split_at.ensures.front_len ∙ c.from.ensures in
    let labels_are : label ++ others ≡ c.in-Some.labels.now = rw (c.split_at.ensures.front, c.split_at.ensures.back) (take-append-drop c.from.result c.in-Some.labels.now) in
    let rest_is : length label ∷ label ++ others ≡ c.labels.rest.now = rw (count_is, labels_are) (sym c.in-Some.ensures.cases.0) in
    let pushed : c.put_label.new.out.items ≡ before ++ (dot ∷ component.0) = component.1 ∙ ap (λ (x : List ℕ). x ++ component.0) c.push.ensures.items ∙ append_assoc before (dot ∷ []) component.0 in
    record {
      is_scope = rw (c.split_at.ensures.back, c.from.ensures) parts.3;
      printed = λ more labels.
          let printed : PrintsLabels c.labels.rest.now (dot ∷ component.0 ++ more) =
          subst (λ (r : List ℕ). PrintsLabels r (dot ∷ component.0 ++ more)) rest_is (label_printed label others component.0 more component.2 labels) in
          subst (λ (t : List ℕ). PrintsLabels c.args.name.now.scope t) (sym (ap (λ (x : List ℕ). x ++ more) pushed ∙ append_assoc before (dot ∷ component.0) more))
          (c.labels.invariant.printed (dot ∷ component.0 ++ more) printed);
      room = omega (arith, ap length pushed, length-append before (dot ∷ component.0), component.3, c.labels.invariant.room, ap length rest_is, length-append label others);
    }

pub returns : goal.returns
returns c =
    let none : PrintsLabels c.labels.rest.now [] = rw (nothing_left_over c.labels.rest.now c.in_default.ensures.cases) none_printed in
    rw append-nil at (c.labels.invariant.printed [] none)
