use Rattle.nbt_asking.proofs.Handing.{granted_back, looked_back}
use Rattle.nbt_asking.proofs.desk.Desk.take_back.Goals as goal

pub returns-in-Some-clause-back : goal.returns-in-Some-clause-back
returns-in-Some-clause-back c = looked_back c.args.self.now c.hand.new.self c.in-Some.came c.take_back.new.octets.items c.by_route.result c.take_back.new.self c.in-Some.ensures.back.0 c.in-Some.ensures.back.1 c.hand.ensures c.by_route.ensures

pub returns-clause-back : goal.returns-clause-back
returns-clause-back c =
    granted_back c.args.self.now c.hand-2.new.self c.in_ok-came.came c.take_granted.new.octets.items c.by_route-2.result c.take_back.new.self c.take_granted.new.asking c.in_default.ensures.none.0 c.in_default.ensures.none.1
    c.in_ok-came.ensures.taken c.hand-2.ensures c.by_route-2.ensures
