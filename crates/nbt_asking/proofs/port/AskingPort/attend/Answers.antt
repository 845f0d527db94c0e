use Rattle.std.proofs.Common.{◌≡◌, ℕ, max, ap, ◌∙◌, subst}
use Rattle.nbt_waits.specs.Lapsing.{Wakes}
use Rattle.nbt_asking.specs.Attending.{DoesAll, most, swept}
use Rattle.nbt_asking.specs.Port.{AskingPortValue}
use Rattle.nbt_asking.proofs.Idling.{idles}
use Rattle.nbt_asking.proofs.port.AskingPort.attend.Goals as goal

pub returns-then-is_let_be : goal.returns-then-is_let_be
returns-then-is_let_be g c =
    let now : c.later-now.result ≡ max c.args.at c.args.server.now.last = c.later-now.ensures ∙ ap (λ (n : ℕ). max c.args.at n) c.last.ensures.last in
    rw (← now, ← c.self.view_is) (idles g.P.Port.does g.I.Ids.draws c.args.server.now.table c.later-now.result c.args.octets.now c.args.entry.now _ (c.is_idle.ensures c.if-is_idle.true) (c.is_let_be.ensures c.if-is_let_be.true))

pub returns : goal.returns
returns g c =
    let now : c.later-now.result ≡ max c.args.at c.args.server.now.last = c.later-now.ensures ∙ ap (λ (n : ℕ). max c.args.at n) c.last.ensures.last in
    let woken = rw c.sweep.ensures at c.wake.ensures in
    rw (← now, ← c.table-table.ensures.table, ← c.self.view_is) (record {
      looked = c.look_aside.new.self;
      turned = c.look_at_turn.new.self;
      given_up = c.give_up.new.self;
      woken = c.wake.new.self;
      followed = c.follow.new.self;
      repeated = c.repeat.new.self;
      looks_aside = c.look_aside.ensures;
      looks_at_turn = c.look_at_turn.ensures;
      gives_up = c.give_up.ensures;
      wakes = subst (λ (s : AskingPortValue g.row.P.Denot g.row.I.Denot). DoesAll most g.P.Port.does (Wakes c.table-table.result.now c.later-now.result) (swept c.later-now.result s) c.wake.new.self) c.self-2.view_is woken;
      follows = c.follow.ensures;
      repeats = c.repeat.ensures;
      begins = c.begin.ensures;
    })
