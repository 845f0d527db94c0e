use Rattle.std.proofs.Common.{◌≡◌, ◌++◌, ◌∷◌, [], length, nat_le, true, Option, sym, refl, ap, ◌∙◌}
use Rattle.std.proofs.lemmas.Bool.{leb-true}
use Rattle.nbt_confirm.specs.declared.waits.Pending.{Pending}
use Rattle.nbt_confirm.specs.Waiting.{begun, next_begun, next_to_ask, waits_most, with_begun}
use Rattle.nbt_asking.specs.Attending.{asks, no_id, no_room, nobody}
use Rattle.nbt_asking.proofs.Doing.{asked, asks_none, asks_one, nobody_asks, somebody_asks, too_many}
use Rattle.nbt_asking.proofs.port.AskingPort.begin_one.Goals as goal

pub returns-then-not-wants_id : goal.returns-then-not-wants_id
returns-then-not-wants_id g c = rw (← c.self.view_is) (nobody (nobody_asks (next_to_ask c.self.inside.desk.asking.waits) (sym c.wants_id.ensures ∙ c.if-not-wants_id.true)))

pub returns-in_default : goal.returns-in_default
returns-in_default g c =
    let one = somebody_asks (next_to_ask c.self.inside.desk.asking.waits) (sym c.wants_id.ensures ∙ c.if-not-wants_id.false) in
    rw (← c.self.view_is) (no_id one.0 c.draw.new.self one.1 c.in_default.ensures)

pub returns-in_default-begin : goal.returns-in_default-begin
returns-in_default-begin g c =
    let waits = c.self.inside.desk.asking.waits in
    let none = asks_none (next_begun c.args.now c.in-Some.id waits) c.begin.result c.begin.new.out.items c.begin.ensures.sends c.in_default-begin.is in
    let full : nat_le waits_most (length waits.pending) ≡ true =
    too_many (nat_le waits_most (length waits.pending)) (next_to_ask waits) (begun c.args.now c.in-Some.id) (sym c.wants_id.ensures ∙ c.if-not-wants_id.false) none in
    let one = somebody_asks (next_to_ask waits) (sym c.wants_id.ensures ∙ c.if-not-wants_id.false) in
    rw (← c.self.view_is, c.begin.ensures.pending, none) (no_room one.0 c.in-Some.id c.draw.new.self one.1 c.in-Some.ensures (leb-true waits_most (length waits.pending) full))

pub returns : goal.returns
returns g c =
    let asking = c.self.inside.desk.asking in
    let one = asks_one (next_begun c.args.now c.in-Some.id asking.waits) c.begin.result c.in-Some-begin.way c.begin.new.out.items c.begin.ensures.sends c.in-Some-begin.is in
    let left = asked g.P.Port.does c.self.inside.beneath c.send_query.new.beneath (next_begun c.args.now c.in-Some.id asking.waits) c.in-Some-begin.way c.begin.new.out.items c.as_slice.result.now one c.as_slice.ensures.value c.send_query.ensures in
    let same : c.begin.new.self ≡ record asking.waits { pending = asking.waits.pending ++ one.p ∷ [] } =
    c.begin.ensures.pending ∙ ap (λ (f : Option Pending). record asking.waits { pending = with_begun f asking.waits.pending }) one.found_is in
    let done = asks one.p.inquiry (asking.waits.pending ++ one.p ∷ []) asking in
    rw (← c.self.view_is) (record {
      id = c.in-Some.id;
      ids = c.draw.new.self;
      drew = c.in-Some.ensures;
      began = record { done = done; did = record { p = one.p; is_next = one.found_is; done_is = refl }; port_did = (c.send_query.new.beneath, left, refl); new_is = rw same refl };
    })
