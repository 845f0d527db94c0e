use Rattle.std.proofs.Common.{◌≡◌, ℕ, ◌==◌, sym, ◌+◌, true, false, not, cond, if◌then◌else◌, length, ap, ◌∙◌}
use Rattle.nbt_lease.proofs.Common.{due, is_due, in_set}
use Rattle.nbt_lease.proofs.Dues.{set_is, set_changes, set_distinct}
use Rattle.nbt_lease.proofs.Tallying.{one_due_more}
use Rattle.nbt_lease.proofs.ends.Ends.insert.Goals as goal

pub returns-in-Ok-clause-found : goal.returns-in-Ok-clause-found
returns-in-Ok-clause-found c d =
    set_changes c.self.inside.dues.keys c.insert.new.self.keys (due c.args.end c.in_ok-key.key c.args.addr) true c.in-Ok.ensures.updates.0 d
    ∙ (λ i. cond (is_due (due c.args.end (c.in_ok-key.ensures i) c.args.addr) d) true (in_set (c.self.view_is i) d))

pub returns-in-Ok-clause-count : goal.returns-in-Ok-clause-count
returns-in-Ok-clause-count c =
    let d = due c.args.end c.in_ok-key.key c.args.addr in
    let none : in_set c.self.inside.dues.keys d ≡ false = (λ i. in_set (c.self.view_is i) (due c.args.end (c.in_ok-key.ensures i) c.args.addr)) ∙ c.requires.absent in
    let added : c.in-Ok.field-0 ≡ true = c.in-Ok.ensures.added ∙ ap not (set_is c.self.inside.dues.keys d ∙ none) in
    c.in-Ok.ensures.len ∙ (λ i. length (c.self.view_is i) + (if added i then 1 else 0))

pub returns-in-Ok-clause-distinct : goal.returns-in-Ok-clause-distinct
returns-in-Ok-clause-distinct c = set_distinct c.insert.new.self.keys c.in-Ok.ensures.ordered

pub invariant_of-self-in-Ok : goal.invariant_of-self-in-Ok
invariant_of-self-in-Ok c =
    let old = c.self.inside.dues.keys in
    let new = c.insert.new.self.keys in
    let d = due c.args.end c.in_ok-key.key c.args.addr in
    let none : in_set old d ≡ false = (λ i. in_set (c.self.view_is i) (due c.args.end (c.in_ok-key.ensures i) c.args.addr)) ∙ c.requires.absent in
    let t = c.self.invariant.1 in
    let once = set_distinct new c.in-Ok.ensures.ordered in (
      λ never. absurd cc,
      record {
        once = once;
        each = λ a. c.in_ok-add.ensures.added a ∙ (ap (λ (n : ℕ). cond (c.args.addr == a) (n + 1) n) (t.each a) ∙ sym (one_due_more old new d t.once once none (set_changes old new d true c.in-Ok.ensures.updates.0) a));
      },
    )
