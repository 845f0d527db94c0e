use Rattle.std.proofs.Common.{◌++◌, List, ℕ, sym, ◌∙◌, subst, append_assoc}
use Rattle.std.specs.Prelude.{slice_index}
use Rattle.std.specs.String.{string_bytes}
use Rattle.hex.specs.Hex.{encode_lower}
use Rattle.nbt_text.specs.NameText.{prefix}
use Rattle.nbt_text.proofs.Joining.{OnOk-map}
use Rattle.nbt_scan.specs.Cells.{PrintsStem, in_capitals, in_hexadecimal}
use Rattle.nbt_scan.proofs.cells.write_stem.Goals as goal

pub returns-in-Some : goal.returns-in-Some
returns-in-Some c =
    let front = c.in-Some.ensures.front in
    let suffix = slice_index c.args.octets.now 15 in
    OnOk-map c.write_characters.result c.write_characters.ensures (λ e.
    (c.in-Some.front.now, subst (λ (octets : List ℕ). PrintsStem octets c.in-Some.front.now) (sym front.1) (in_capitals c.in-Some.front.now suffix front.0), e))

pub returns-in_ok-push_str-in-None : goal.returns-in_ok-push_str-in-None
returns-in_ok-push_str-in-None c =
    let pushed = c.in_ok-push_str-in-None.ensures.bytes in
    OnOk-map c.write_hexadecimal.result c.write_hexadecimal.ensures (λ e. (
      prefix ++ encode_lower c.args.octets.now,
      in_hexadecimal c.args.octets.now c.in-None.ensures.none,
      e ∙ rw (pushed, c.as_slice.ensures) (append_assoc (string_bytes c.args.out.now) prefix (encode_lower c.args.octets.now)),
    ))
