use Rattle.nbt_c.proofs.Common.{List, ℕ, sym, subst, NameValue, PrintsLabels, dotted, IsScopeText, has_no_name}
use Rattle.nbt_c.proofs.Forms.{form_written}
use Rattle.nbt_c.proofs.words.nbt_name_to_scope.Goals as goal

pub returns-in_default : goal.returns-in_default
returns-in_default c = has_no_name c.in_default.ensures.none

pub returns : goal.returns
returns c =
    let read = c.in-Some.ensures.read in
    let form = c.undotted.result.now in
    let printed = subst (λ (text : List ℕ). PrintsLabels c.in-Some.name.scope text) (sym c.as_slice.ensures.value) c.labels_of.ensures in
    let is = subst (λ (name : NameValue). PrintsLabels name.scope (dotted form)) read.1 (c.undotted.ensures c.in-Some.name.scope printed) in
    form_written IsScopeText c.args.name.now c.args.out.now c.args.size.now form read.0 is c.put_form.result c.put_form.new.out c.put_form.new.size c.put_form.ensures.written c.put_form.ensures.left
