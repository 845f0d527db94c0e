use Rattle.std.proofs.Common.{◌≡◌, ◌∙◌, ℕ, List, ◌++◌, ap}
use Rattle.std.specs.String.{string_bytes}
use Rattle.nbt_text.specs.Lines.{one_line}
use Rattle.nbt_store.specs.declared.form.Form.TheVariants.{Three}
use Rattle.nbt_store.specs.Forms.{version}
use Rattle.nbt_store.proofs.Written.{front_put}
use Rattle.nbt_store.proofs.writing.write_front.Goals as goal

pub returns-clause-lines : goal.returns-clause-lines
returns-clause-lines c =
    let out : string_bytes c.end_line.new.out ≡ one_line (version Three) = c.in_ok-end_line.ensures ∙ ap one_line (c.in_ok-push_str.ensures.bytes ∙ ap (λ (xs : List ℕ). xs ++ version Three) c.requires) in
    (front_put (string_bytes c.end_line.new.out) (string_bytes c.write_head.new.out) (record { header = c.args.header.now; leases = c.args.leases }) c.write_head.result out c.write_head.ensures).0

pub returns-clause-closed : goal.returns-clause-closed
returns-clause-closed c =
    let out : string_bytes c.end_line.new.out ≡ one_line (version Three) = c.in_ok-end_line.ensures ∙ ap one_line (c.in_ok-push_str.ensures.bytes ∙ ap (λ (xs : List ℕ). xs ++ version Three) c.requires) in
    (front_put (string_bytes c.end_line.new.out) (string_bytes c.write_head.new.out) (record { header = c.args.header.now; leases = c.args.leases }) c.write_head.result out c.write_head.ensures).1
