use Rattle.std.proofs.Common.{refl}
use Rattle.std.specs.List.{find}
use Rattle.nbt_confirm.specs.Firsts.{with_first}
use Rattle.nbt_confirm.specs.Waiting.{is_to_repeat, repeated}
use Rattle.nbt_asking.specs.Attending.{asks}
use Rattle.nbt_asking.proofs.Doing.{asked, asks_none, asks_one, not_both, unfound_stays}
use Rattle.nbt_asking.proofs.port.AskingPort.repeat_one.Goals as goal

pub returns-in_default : goal.returns-in_default
returns-in_default g c =
    let pending = c.self.inside.desk.asking.waits.pending in
    let found = find (is_to_repeat c.args.now) pending in
    let none = asks_none found c.repeat.result c.repeat.new.out.items c.repeat.ensures.sends c.in_default.is in
    rw (← c.self.view_is) (rw (c.repeat.ensures.pending, unfound_stays (is_to_repeat c.args.now) (repeated c.args.now) pending none) refl, λ next d. not_both found d.did.p none d.did.is_first)

pub returns : goal.returns
returns g c =
    let asking = c.self.inside.desk.asking in
    let one = asks_one (find (is_to_repeat c.args.now) asking.waits.pending) c.repeat.result c.in-Some.way c.repeat.new.out.items c.repeat.ensures.sends c.in-Some.is in
    let left = asked g.P.Port.does c.self.inside.beneath c.send_query.new.beneath (find (is_to_repeat c.args.now) asking.waits.pending) c.in-Some.way c.repeat.new.out.items c.as_slice.result.now one c.as_slice.ensures.value c.send_query.ensures in
    let done = asks one.p.inquiry (with_first (is_to_repeat c.args.now) (repeated c.args.now) asking.waits.pending) asking in
    rw (← c.self.view_is) (record { done = done; did = record { p = one.p; is_first = one.found_is; done_is = refl }; port_did = (c.send_query.new.beneath, left, refl); new_is = rw c.repeat.ensures.pending refl })
