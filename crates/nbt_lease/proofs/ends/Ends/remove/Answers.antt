use Rattle.std.proofs.Common.{◌≡◌, ℕ, ◌+◌, ◌-◌, ◌==◌, true, false, cond, if◌then◌else◌, length, sym, ap, ◌∙◌}
use Rattle.nbt_lease.proofs.Common.{due, is_due, in_set}
use Rattle.nbt_lease.proofs.Dues.{set_is, set_changes, set_distinct}
use Rattle.nbt_lease.proofs.Tallying.{one_due_fewer}
use Rattle.nbt_lease.proofs.ends.Ends.remove.Goals as goal

pub returns-clause-found : goal.returns-clause-found
returns-clause-found c d =
    set_changes c.self.inside.dues.keys c.remove.new.self.keys (due c.args.end c.set.new.self c.args.addr) false c.remove.ensures.updates.0 d
    ∙ (λ i. cond (is_due (due c.args.end (c.set.ensures i) c.args.addr) d) false (in_set (c.self.view_is i) d))

pub returns-clause-count : goal.returns-clause-count
returns-clause-count c =
    let d = due c.args.end c.set.new.self c.args.addr in
    let there : in_set c.self.inside.dues.keys d ≡ true = (λ i. in_set (c.self.view_is i) (due c.args.end (c.set.ensures i) c.args.addr)) ∙ c.requires.there in
    let gone : c.remove.result ≡ true = c.remove.ensures.test ∙ (set_is c.self.inside.dues.keys d ∙ there) in
    (λ i. length c.remove.new.self.keys + (if sym gone i then 1 else 0)) ∙ (c.remove.ensures.len ∙ ap length c.self.view_is)

pub returns-clause-distinct : goal.returns-clause-distinct
returns-clause-distinct c = set_distinct c.remove.new.self.keys c.remove.ensures.ordered

pub invariant_of-self-2 : goal.invariant_of-self-2
invariant_of-self-2 c =
    let old = c.self.inside.dues.keys in
    let new = c.remove.new.self.keys in
    let d = due c.args.end c.set.new.self c.args.addr in
    let there : in_set old d ≡ true = (λ i. in_set (c.self.view_is i) (due c.args.end (c.set.ensures i) c.args.addr)) ∙ c.requires.there in
    let t = c.self.invariant.1 in
    let once = set_distinct new c.remove.ensures.ordered in (
      λ never. absurd cc,
      record {
        once = once;
        each = λ a. c.remove-2.ensures a ∙ (ap (λ (n : ℕ). cond (c.args.addr == a) (n - 1) n) (t.each a) ∙ sym (one_due_fewer old new d t.once once there (set_changes old new d false c.remove.ensures.updates.0) a));
      },
    )
