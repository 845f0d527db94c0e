use Rattle.nbt_name.specs.declared.form.Form.TheVariants.{Plain}
use Rattle.nbt_session.proofs.Faults as faults
use Rattle.nbt_session.proofs.laws.one_fault.Goals as goal

pub returns-clause-one : goal.returns-clause-one
returns-clause-one c = faults.one_fault (record {
  one_name = c.one_name_or_fault.ensures.one_name Plain;
  one_fault = c.one_name_or_fault.ensures.one_fault Plain;
  not_both = c.one_name_or_fault.ensures.not_both Plain;
})

pub returns-clause-stays : goal.returns-clause-stays
returns-clause-stays c = faults.stays
