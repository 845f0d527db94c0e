use Rattle.std.proofs.Common.{◌≡◌, ℕ, ◌≤◌, true, false, refl, sym, subst, arith}
use Rattle.std.proofs.lemmas.Bool.{false≢true}
use Rattle.nbt_serve.specs.Looking.{is_line_due, replies_wait, goes_back, has_no_room, stays}
use Rattle.nbt_serve.proofs.Looked.{part_look, begin_look, line_look}
use Rattle.nbt_serve.proofs.looking.look_after.Goals as goal

pub returns-then-not-is_clear : goal.returns-then-not-is_clear
returns-then-not-is_clear g c = replies_wait (λ none. false≢true (c.if-not-is_clear.ensures.1 none))

pub returns-then-get-durable : goal.returns-then-get-durable
returns-then-get-durable g c = let a = c.get.ensures.value in let d = c.durable.ensures in let l = c.if-get-durable.true in goes_back (omega (arith, a, d, l))

pub returns-then-is_spent : goal.returns-then-is_spent
returns-then-is_spent g c =
    let onward = subst (λ (n : ℕ). n ≤ c.args.at) c.durable.ensures (subst (λ (n : ℕ). c.durable.result ≤ n) c.get.ensures.value c.if-get-durable.false) in
    has_no_room c.now-time.result c.now-time.new.self (c.if-not-is_clear.ensures.0 refl) onward c.now-time.ensures

pub returns-then-is_line_due : goal.returns-then-is_line_due
returns-then-is_line_due g c =
    let onward = subst (λ (n : ℕ). n ≤ c.args.at) c.durable.ensures (subst (λ (n : ℕ). c.durable.result ≤ n) c.get.ensures.value c.if-get-durable.false) in
    line_look g.S.Store.does g.D.Clock.tells c.args.server.now c.args.at (record { store = c.args.store.now; day = c.args.day.now; header = c.args.header.now; waiting = c.args.waiting.now }) c.now-time.result c.now-time.new.self
    (c.if-not-is_clear.ensures.0 refl) onward c.now-time.ensures c.lay_down_look.result c.lay_down_look.new.store c.lay_down_look.new.header c.lay_down_look.new.waiting c.lay_down_look.ensures.header
    (subst (λ (n : ℕ). is_line_due c.args.header.now n c.args.at c.now-time.result ≡ true) c.durable-2.ensures (sym c.if-is_line_due.ensures)) c.lay_down_look.ensures.ok c.lay_down_look.ensures.err

pub returns-then-is_renewing : goal.returns-then-is_renewing
returns-then-is_renewing g c =
    let onward = subst (λ (n : ℕ). n ≤ c.args.at) c.durable.ensures (subst (λ (n : ℕ). c.durable.result ≤ n) c.get.ensures.value c.if-get-durable.false) in
    part_look g.S.Store.does g.D.Clock.tells c.args.server.now c.args.at (record { store = c.args.store.now; day = c.args.day.now; header = c.args.header.now; waiting = c.args.waiting.now }) c.now-time.result c.now-time.new.self
    (c.if-not-is_clear.ensures.0 refl) onward c.now-time.ensures (subst (λ (n : ℕ). is_line_due c.args.header.now n c.args.at c.now-time.result ≡ false) c.durable-2.ensures (sym c.if-is_line_due.ensures)) c.go_on.result c.go_on.new.store c.go_on.ensures

pub returns-in-Some : goal.returns-in-Some
returns-in-Some g c =
    let onward = subst (λ (n : ℕ). n ≤ c.args.at) c.durable.ensures (subst (λ (n : ℕ). c.durable.result ≤ n) c.get.ensures.value c.if-get-durable.false) in
    begin_look g.S.Store.does g.D.Clock.tells c.args.server.now c.args.at (record { store = c.args.store.now; day = c.args.day.now; header = c.args.header.now; waiting = c.args.waiting.now }) c.now-time.result c.now-time.new.self
    (c.if-not-is_clear.ensures.0 refl) onward c.now-time.ensures (subst (λ (n : ℕ). is_line_due c.args.header.now n c.args.at c.now-time.result ≡ false) c.durable-2.ensures (sym c.if-is_line_due.ensures)) c.begin.result c.begin.new.store c.begin.new.header c.begin.new.waiting c.in-Some.changes.items c.begin.ensures.header
    c.in-Some.ensures c.begin.ensures.ok c.begin.ensures.err

pub returns : goal.returns
returns g c =
    let onward = subst (λ (n : ℕ). n ≤ c.args.at) c.durable.ensures (subst (λ (n : ℕ). c.durable.result ≤ n) c.get.ensures.value c.if-get-durable.false) in
    stays c.now-time.result c.now-time.new.self (c.if-not-is_clear.ensures.0 refl) onward c.now-time.ensures
    (subst (λ (n : ℕ). is_line_due c.args.header.now n c.args.at c.now-time.result ≡ false) c.durable-2.ensures (sym c.if-is_line_due.ensures))
