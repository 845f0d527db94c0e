use Rattle.nbt_log.proofs.gauges.measure.Goals as goal

pub returns : goal.returns
returns c =
    let unique = c.count_of-unique.ensures in
    let groups = c.count_of-groups.ensures in
    let without = c.saturating_sub.ensures in
    let free = c.saturating_sub-2.ensures in
    let least = c.least_left.ensures in
    let greatest = c.greatest_left.ensures in
    let now = c.get-now.ensures.value in
    cc
