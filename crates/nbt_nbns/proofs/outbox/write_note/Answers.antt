use Rattle.std.proofs.Common.{◌≡◌, ◌++◌, Bool, nat_eq, false, ne_eqb, subst, sym, ◌∙◌, append_assoc, [], codes, OnOk, if◌then◌else◌}
use Rattle.std.specs.Fmt.{decimal}
use Rattle.std.specs.String.{string_bytes}
use Rattle.nbt_text.proofs.Joining.{OnOk-map}
use Rattle.nbt_text.specs.Lines.{newline}
use Rattle.nbt_nbns.proofs.outbox.write_note.Goals as goal

pub returns : goal.returns
returns c =
    let some : nat_eq c.args.dropped 0 ≡ false = ne_eqb c.args.dropped 0 c.if-dropped-eq0.false in
    subst
    (λ (none : Bool). OnOk c.writeln.result (string_bytes c.writeln.new.self ≡ string_bytes c.args.out.now
    ++ (if none then [] else codes ".. " ++ decimal c.args.dropped ++ codes " lines dropped: the reader of the log was slow, or it could not be written" ++ newline)))
    (sym some) (OnOk-map c.writeln.result c.writeln.ensures.bytes (λ e. e ∙ simp append_assoc))
