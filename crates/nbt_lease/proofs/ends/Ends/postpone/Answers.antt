use Rattle.std.proofs.Common.{◌≡◌, ◌==◌, ℕ, ◌+◌, ◌-◌, true, false, not, cond, if◌then◌else◌, length, sym, ap, ◌∙◌, arith}
use Rattle.nbt_lease.proofs.Common.{due, is_due, in_set}
use Rattle.nbt_lease.proofs.Dues.{set_is, set_changes, set_distinct}
use Rattle.nbt_lease.proofs.Tallying.{one_due_more, one_due_fewer, still_there, back_again}
use Rattle.nbt_lease.proofs.ends.Ends.postpone.Goals as goal

pub returns-clause-found : goal.returns-clause-found
returns-clause-found c d =
    set_changes c.insert.new.self.keys c.remove.new.self.keys (due c.args.before c.set.new.self c.args.addr) false c.remove.ensures.updates.0 d
    ∙ (ap (cond (is_due (due c.args.before c.set.new.self c.args.addr) d) false) (set_changes c.self.inside.dues.keys c.insert.new.self.keys (due c.args.end c.in_ok-key.key c.args.addr) true c.in_ok-insert.ensures.updates.0 d)
    ∙ (λ i. cond (is_due (due c.args.before (c.set.ensures i) c.args.addr) d) false (cond (is_due (due c.args.end (c.in_ok-key.ensures i) c.args.addr) d) true (in_set (c.self.view_is i) d))))

pub returns-clause-count : goal.returns-clause-count
returns-clause-count c =
    let old = c.self.inside.dues.keys in
    let mid = c.insert.new.self.keys in
    let d = due c.args.end c.in_ok-key.key c.args.addr in
    let e = due c.args.before c.set.new.self c.args.addr in
    let none : in_set old d ≡ false = (λ i. in_set (c.self.view_is i) (due c.args.end (c.in_ok-key.ensures i) c.args.addr)) ∙ c.requires.absent in
    let was : in_set old e ≡ true = (λ i. in_set (c.self.view_is i) (due c.args.before (c.set.ensures i) c.args.addr)) ∙ c.requires.there in
    let there : in_set mid e ≡ true = set_changes old mid d true c.in_ok-insert.ensures.updates.0 e ∙ still_there (is_due d e) (in_set old e) was in
    let added : c.in_ok-insert.field-0 ≡ true = c.in_ok-insert.ensures.added ∙ ap not (set_is old d ∙ none) in
    let gone : c.remove.result ≡ true = c.remove.ensures.test ∙ (set_is mid e ∙ there) in
    let more : length mid ≡ length old + 1 = c.in_ok-insert.ensures.len ∙ (λ i. length old + (if added i then 1 else 0)) in
    let fewer : length c.remove.new.self.keys + 1 ≡ length mid = (λ i. length c.remove.new.self.keys + (if sym gone i then 1 else 0)) ∙ c.remove.ensures.len in
    omega (arith, more, fewer, ap length c.self.view_is)

pub returns-clause-distinct : goal.returns-clause-distinct
returns-clause-distinct c = set_distinct c.remove.new.self.keys c.remove.ensures.ordered

pub invariant_of-self-2 : goal.invariant_of-self-2
invariant_of-self-2 c =
    let old = c.self.inside.dues.keys in
    let mid = c.insert.new.self.keys in
    let new = c.remove.new.self.keys in
    let d = due c.args.end c.in_ok-key.key c.args.addr in
    let e = due c.args.before c.set.new.self c.args.addr in
    let none : in_set old d ≡ false = (λ i. in_set (c.self.view_is i) (due c.args.end (c.in_ok-key.ensures i) c.args.addr)) ∙ c.requires.absent in
    let was : in_set old e ≡ true = (λ i. in_set (c.self.view_is i) (due c.args.before (c.set.ensures i) c.args.addr)) ∙ c.requires.there in
    let grown = set_changes old mid d true c.in_ok-insert.ensures.updates.0 in
    let there : in_set mid e ≡ true = grown e ∙ still_there (is_due d e) (in_set old e) was in
    let t = c.self.invariant.1 in
    let between = set_distinct mid c.in_ok-insert.ensures.ordered in
    let once = set_distinct new c.remove.ensures.ordered in (
      λ never. absurd cc,
      record {
        once = once;
        each = λ a.
            t.each a ∙ sym (one_due_fewer mid new e between once there (set_changes mid new e false c.remove.ensures.updates.0) a
            ∙ (ap (λ (n : ℕ). cond (c.args.addr == a) (n - 1) n) (one_due_more old mid d t.once between none grown a) ∙ back_again (c.args.addr == a) _));
      },
    )
