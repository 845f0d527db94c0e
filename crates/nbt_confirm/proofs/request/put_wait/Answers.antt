use Rattle.std.proofs.Common.{ℕ, List, ◌++◌, ap, ◌∙◌}
use Rattle.std.proofs.lemmas.List.{append_assoc}
use Rattle.nbt_name.specs.Wire.{wire}
use Rattle.nbt_name.specs.Words.{word, long}
use Rattle.nbt_packet.specs.Message.{nb, internet}
use Rattle.nbt_packet.specs.Text.{header}
use Rattle.nbt_confirm.proofs.request.put_wait.Goals as goal

pub returns-clause-form : goal.returns-clause-form
returns-clause-form c =
    let head = header c.args.id 0xBC00 0 1 0 in
    let name = wire c.args.name.now in
    let fields = word nb ++ word internet ++ long c.args.seconds ++ word 2 in
    let flags = word c.args.flags in
    c.put_word.ensures
    ∙ (ap (λ (xs : List ℕ). xs ++ flags) (c.put_record_fields.ensures ∙ ap (λ (xs : List ℕ). xs ++ fields) (c.put_wire.ensures.form ∙ ap (λ (xs : List ℕ). xs ++ name) c.put_header.ensures))
    ∙ (append_assoc (head ++ name) fields flags ∙ append_assoc head name (fields ++ flags)))
