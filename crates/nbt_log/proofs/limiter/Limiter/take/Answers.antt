use Rattle.std.proofs.Common.{◌≡◌, ◌+◌, ◌<◌, ◌≤◌, length, slice_index, refl, ap, subst, arith}
use Rattle.nbt_lease.specs.Config.{milliseconds}
use Rattle.nbt_log.specs.Limiting.{LimiterValue}
use Rattle.nbt_log.proofs.Remembering.{all_told, room, aged, one_left_out}
use Rattle.nbt_log.proofs.limiter.Limiter.take.Goals as goal

pub returns-then-self-eq0 : goal.returns-then-self-eq0
returns-then-self-eq0 c = all_told c.args.self.now c.args.self.now c.count.new.self c.args.now c.count.result refl (subst (λ (o : LimiterValue). o.most ≡ 0) c.self.view_is c.if-self-eq0.true) c.count.ensures.left_out c.count.ensures.counted

pub returns-then-len-from : goal.returns-then-len-from
returns-then-len-from c =
    let told = c.self.inside.told.items in
    let short = c.if-len-from.true in
    let len = c.len.ensures.value in
    let from = c.from.ensures in
    let few : length told < c.self.inside.most = omega (arith, short, len, from) in
    room c.args.self.now c.args.self.now c.tell.new.self c.args.now c.tell.result refl (subst (λ (o : LimiterValue). length o.told < o.most) c.self.view_is few) c.tell.ensures.left_out c.tell.ensures.told

pub returns-then-get-saturating_add : goal.returns-then-get-saturating_add
returns-then-get-saturating_add c =
    let told = c.self.inside.told.items in
    let none = c.if-self-eq0.false in
    let some : 0 < c.self.inside.most = omega (arith, none) in
    let long = c.if-len-from.false in
    let len = c.len.ensures.value in
    let from = c.from.ensures in
    let full : c.self.inside.most ≤ length told = omega (arith, long, len, from) in
    let first = ap (λ xs. slice_index xs 0) c.as_slice.ensures.value in
    let now = c.get.ensures.value in
    let least = c.saturating_add.ensures in
    let lt = c.if-get-saturating_add.true in
    let early : c.args.now < slice_index told 0 + milliseconds 1 = omega (arith, first, now, least, lt) in
    one_left_out c.args.self.now (record { most = c.self.inside.most; told = told; left_out = c.self.inside.left_out }) c.args.now c.saturating_add-self-inside.result c.self.view_is some full early c.saturating_add-self-inside.ensures

pub returns : goal.returns
returns c =
    let told = c.self.inside.told.items in
    let none = c.if-self-eq0.false in
    let some : 0 < c.self.inside.most = omega (arith, none) in
    let long = c.if-len-from.false in
    let len = c.len.ensures.value in
    let from = c.from.ensures in
    let full : c.self.inside.most ≤ length told = omega (arith, long, len, from) in
    let first = ap (λ xs. slice_index xs 0) c.as_slice.ensures.value in
    let now = c.get.ensures.value in
    let bound = c.get.ensures.bound in
    let least = c.saturating_add.ensures in
    let le = c.if-get-saturating_add.false in
    let past : slice_index told 0 + milliseconds 1 ≤ c.args.now = omega (arith, first, now, bound, least, le) in
    aged c.args.self.now (record { most = c.self.inside.most; told = told; left_out = c.self.inside.left_out }) c.tell-2.new.self c.args.now c.tell-2.result c.self.view_is some full past c.tell-2.ensures.left_out
    (rw c.remove.ensures.items at c.tell-2.ensures.told)
