use Rattle.nbt_c.proofs.Common.{List, ℕ, sym, subst, NameValue, PrintsOctets, IsWord, has_no_name}
use Rattle.nbt_c.proofs.Forms.{form_written}
use Rattle.nbt_c.proofs.words.nbt_name_to_word.Goals as goal

pub returns-in_default : goal.returns-in_default
returns-in_default c = has_no_name c.in_default.ensures.none

pub returns : goal.returns
returns c =
    let read = c.in-Some.ensures.read in
    let form = c.as_slice.result.now in
    let printed = subst (λ (word : List ℕ). PrintsOctets c.octets.result.now word) (sym c.as_slice.ensures.value) c.word_of.ensures in
    let is = subst (λ (name : NameValue). PrintsOctets name.octets form) read.1 (subst (λ (octets : List ℕ). PrintsOctets octets form) c.octets.ensures.value printed) in
    form_written IsWord c.args.name.now c.args.out.now c.args.size.now form read.0 is c.put_form.result c.put_form.new.out c.put_form.new.size c.put_form.ensures.written c.put_form.ensures.left
