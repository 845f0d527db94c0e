use Rattle.std.proofs.Common.{◌++◌, ◌∙◌, ℕ, List, refl, subst}
use Rattle.std.specs.String.{string_bytes}
use Rattle.nbt_text.specs.NameText.{IsTrimmed, PrintsComponent, PrintsLabels}
use Rattle.nbt_text.proofs.Joining.{OnOk-map, two_parts}
use Rattle.nbt_text.proofs.name_text.write_name.Goals as goal

pub returns : goal.returns
returns c =
    let first = c.in_ok-write_component.ensures in
    let trimmed = c.without_spaces.result.now in
    let is = c.as_slice-octets.ensures ∙ c.octets.ensures.value in
    OnOk-map c.write_labels.result c.write_labels.ensures (λ labels. (
      first.0 ++ labels.0,
      two_parts (string_bytes c.args.out.now) _ _ first.0 labels.0 first.1 labels.2,
      record {
        trimmed = trimmed;
        first = first.0;
        rest = labels.0;
        text_is = refl;
        is_trimmed = subst (λ (octets : List ℕ). IsTrimmed octets trimmed) is c.without_spaces.ensures;
        sixteen = subst (λ (octets : List ℕ). PrintsComponent trimmed octets first.0) is first.2;
        labels = subst (λ (scope : List ℕ). PrintsLabels scope labels.0) c.scope.ensures.value labels.1;
      },
    ))
