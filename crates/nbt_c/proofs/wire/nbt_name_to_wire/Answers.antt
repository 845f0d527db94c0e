use Rattle.nbt_c.proofs.Common.{ap, ◌∙◌, wire, IsWire, has_no_name}
use Rattle.nbt_c.proofs.Forms.{form_written}
use Rattle.nbt_c.proofs.wire.nbt_name_to_wire.Goals as goal

pub returns-in_default : goal.returns-in_default
returns-in_default c = has_no_name c.in_default.ensures.none

pub returns : goal.returns
returns c =
    let read = c.in-Some.ensures.read in
    form_written IsWire c.args.name.now c.args.out.now c.args.size.now c.as_slice.result.now read.0 (c.as_slice.ensures.value ∙ c.to_wire.ensures.form ∙ ap wire read.1)
    c.put_form.result c.put_form.new.out c.put_form.new.size c.put_form.ensures.written c.put_form.ensures.left
