use Rattle.std.proofs.Common.{sym, subst, ap, ◌∙◌}
use Rattle.nbt_lease.proofs.Common.{is_due, IsDistinct}
use Rattle.nbt_lease.proofs.Agreeing.{none_distinct}
use Rattle.nbt_lease.specs.Inner.Tally.{dues_of_client}
use Rattle.nbt_lease.proofs.ends.Ends.new.Goals as goal

pub invariant_of-result : goal.invariant_of-result
invariant_of-result c = (
  λ none. c.new.ensures.empty,
  record {
    once = subst (IsDistinct is_due) (sym c.new.ensures.empty) (none_distinct is_due);
    each = λ a. c.new-2.ensures a ∙ sym (ap (dues_of_client a) c.new.ensures.empty);
  },
)
