use Rattle.std.proofs.Common.{◌≡◌, ◌++◌, Bool, nat_eq, false, ne_eqb, subst, sym, ◌∙◌, append_assoc, codes, OnOk, if◌then◌else◌}
use Rattle.std.specs.Fmt.{decimal}
use Rattle.std.specs.String.{string_bytes}
use Rattle.nbt_text.proofs.Joining.{OnOk-map}
use Rattle.nbt_text.specs.Lines.{newline}
use Rattle.nbt_log.proofs.line.write_left_out.Goals as goal

pub returns-else-left_out-eq0 : goal.returns-else-left_out-eq0
returns-else-left_out-eq0 c =
    let some : nat_eq c.args.left_out 0 ≡ false = ne_eqb c.args.left_out 0 c.if-left_out-eq0.false in
    subst (λ (none : Bool). OnOk c.writeln.result (string_bytes c.writeln.new.self ≡ string_bytes c.args.out.now ++ (if none then newline else codes ", " ++ decimal c.args.left_out ++ codes " left out before" ++ newline))) (sym some)
    (OnOk-map c.writeln.result c.writeln.ensures.bytes (λ e. e ∙ simp append_assoc))
