use Rattle.std.proofs.Common.{◌≡◌, ◌++◌, Bool, nat_eq, false, ne_eqb, subst, sym, ◌∙◌, append_assoc, codes, OnOk, if◌then◌else◌}
use Rattle.std.specs.Fmt.{decimal}
use Rattle.std.specs.String.{string_bytes}
use Rattle.nbt_text.proofs.Joining.{OnOk-map}
use Rattle.nbt_text.specs.Lines.{newline}
use Rattle.nbt_host.proofs.begin.write_count.Goals as goal

pub returns-else-count-eq1 : goal.returns-else-count-eq1
returns-else-count-eq1 c =
    let some : nat_eq c.args.count 1 ≡ false = ne_eqb c.args.count 1 c.if-count-eq1.false in
    subst (λ (one : Bool). OnOk c.writeln.result (string_bytes c.writeln.new.self ≡ string_bytes c.args.out.now ++ (if one then codes " for 1 name" ++ newline else codes " for " ++ decimal c.args.count ++ codes " names" ++ newline))) (sym some)
    (OnOk-map c.writeln.result c.writeln.ensures.bytes (λ e. e ∙ simp append_assoc))
