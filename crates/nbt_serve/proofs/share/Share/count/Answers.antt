use Rattle.std.proofs.Common.{◌<◌, ◌≤◌, subst}
use Rattle.nbt_serve.specs.Sharing.{ShareValue}
use Rattle.nbt_serve.proofs.Shares.{counted_one, not_counted, beyond_one}
use Rattle.nbt_serve.proofs.share.Share.count.Goals as goal

pub returns-then-had-self : goal.returns-then-had-self
returns-then-had-self c =
    let old = c.args.self.now in
    beyond_one old old c.bar.new.self c.args.now c.args.client c.had-had.result c.had-had.ensures c.requires.limited (subst (λ (s : ShareValue). s.limit ≤ c.had-had.result) c.self.view_is c.if-had-self.true) c.bar.ensures

pub returns-in-Ok : goal.returns-in-Ok
returns-in-Ok c =
    let e = c.enter.ensures in
    let p = c.in-Ok.ensures in
    counted_one c.args.self.now c.enter.new.self c.put.new.self c.args.now c.args.client c.had-had.result c.had-had.ensures (subst (λ (s : ShareValue). c.had-had.result < s.limit) c.self.view_is c.if-had-self.false)
    e.second e.made e.limit e.barred p.second p.put p.limit p.barred

pub returns-in-Err : goal.returns-in-Err
returns-in-Err c =
    let e = c.enter.ensures in
    let p = c.in-Err.ensures in
    not_counted c.args.self.now c.enter.new.self c.put.new.self c.args.now c.args.client c.bar-in-Err.new.self c.requires.limited e.second e.made e.limit e.barred p.second p.unchanged p.limit p.barred p.first c.bar-in-Err.ensures
