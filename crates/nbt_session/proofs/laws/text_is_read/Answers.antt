use Rattle.std.proofs.Common.{refl, sym, ◌∙◌}
use Rattle.nbt_name.specs.declared.form.Form.TheVariants.{Plain}
use Rattle.nbt_session.proofs.Packets.{NameLaws, text_apart}
use Rattle.nbt_session.proofs.Faults.{no_fault}
use Rattle.nbt_session.proofs.laws.text_is_read.Goals as goal

names : (c : goal.After-one_name_or_fault) → NameLaws
names c = record { apart = c.no_wire_form_begins_another.ensures; wire_is = c.wire_form_is_read.ensures }

pub returns-clause-read : goal.returns-clause-read
returns-clause-read c = λ packet rest is. (is, refl)

pub returns-clause-one_packet : goal.returns-clause-one_packet
returns-clause-one_packet c = λ octets a b x y p q. text_apart (names c) a b x y p.0 q.0 (sym p.1 ∙ q.1)

pub returns-clause-no_fault : goal.returns-clause-no_fault
returns-clause-no_fault c = no_fault (names c) (record {
  one_name = c.one_name_or_fault.ensures.one_name Plain;
  one_fault = c.one_name_or_fault.ensures.one_fault Plain;
  not_both = c.one_name_or_fault.ensures.not_both Plain;
})
