use Rattle.std.proofs.Common.{◌≡◌, ◌++◌, ◌∷◌, [], ℕ, List, length, sym, ◌∙◌, ap, subst, arith, append_assoc}
use Rattle.std.proofs.lemmas.List.{append-nil, take-append-drop}
use Rattle.nbt_name.proofs.Scopes.{IsScope-parts}
use Rattle.std.specs.String.{string_bytes}
use Rattle.nbt_text.specs.NameText.{PrintsLabels, label_printed, none_printed, dot}
use Rattle.nbt_text.proofs.NameText.{nothing_left_over}
use Rattle.nbt_text.proofs.name_text.write_labels.Goals as goal

pub labels-init : goal.labels-init
labels-init c = record { is_scope = c.requires; printed = ([], sym (append-nil (string_bytes c.args.out.now)), λ more labels. labels) }

pub split_at-requires : goal.split_at-requires
split_at-requires c =
    let parts = IsScope-parts c.labels.rest.now c.in-Some.field-0-0.now c.in-Some.labels.now c.labels.invariant.is_scope c.in-Some.ensures.cases.0 in
    omega (arith, parts.2, c.from.ensures)

pub labels-preserved : goal.labels-preserved
labels-preserved c =
    let parts = IsScope-parts c.labels.rest.now c.in-Some.field-0-0.now c.in-Some.labels.now c.labels.invariant.is_scope c.in-Some.ensures.cases.0 in
    let label = c.split_at.result.0.now in
    let others = c.split_at.result.1.now in
    let count_is : length label ≡ c.in-Some.field-0-0.now = c.split_at.ensures.front_len ∙ c.from.ensures in
    let labels_are : label ++ others ≡ c.in-Some.labels.now = rw (c.split_at.ensures.front, c.split_at.ensures.back) (take-append-drop c.from.result c.in-Some.labels.now) in
    let rest_is : length label ∷ label ++ others ≡ c.labels.rest.now = rw (count_is, labels_are) (sym c.in-Some.ensures.cases.0) in
    let before = c.labels.invariant.printed in
    let component = c.in_ok-write_component.ensures in
    let pushed : string_bytes c.push.new.self ≡ string_bytes c.labels.out ++ dot ∷ [] = c.in_ok-push.ensures.bytes ∙ ap (λ (x : List ℕ). string_bytes c.labels.out ++ x) (c.push.ensures.ascii (omega arith)) in
    record {
      is_scope = rw (c.split_at.ensures.back, c.from.ensures) parts.3;
      printed = (
        before.0 ++ (dot ∷ component.0),
        component.1 ∙ ap (λ (x : List ℕ). x ++ component.0) (pushed ∙ ap (λ (x : List ℕ). x ++ dot ∷ []) before.1)
            ∙ append_assoc (string_bytes c.args.out.now ++ before.0) (dot ∷ []) component.0 ∙ append_assoc (string_bytes c.args.out.now) before.0 (dot ∷ component.0),
        λ more labels.
            let printed : PrintsLabels c.labels.rest.now (dot ∷ component.0 ++ more) =
            subst (λ (r : List ℕ). PrintsLabels r (dot ∷ component.0 ++ more)) rest_is (label_printed label others component.0 more component.2 labels) in
            rw append_assoc (before.2 (dot ∷ component.0 ++ more) printed),
      );
    }

pub returns : goal.returns
returns c =
    let before = c.labels.invariant.printed in
    let none : PrintsLabels c.labels.rest.now [] = rw (nothing_left_over c.labels.rest.now c.in_default.ensures.cases) none_printed in
    (before.0, rw append-nil at (before.2 [] none), before.1)
