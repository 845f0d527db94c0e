use Rattle.std.proofs.Common.{◌≤◌, length, rules}
use Rattle.nbt_front.specs.NetworkFiles.{full, misspelled, named, passed_over}
use Rattle.nbt_front.specs.Numbers.{networks_most}
use Rattle.nbt_front.proofs.network_file.take_network.Goals as goal

pub returns-in_default-clause-ok : goal.returns-in_default-clause-ok
returns-in_default-clause-ok c = passed_over (rw (c.in_default.is, c.said.ensures) at c.in_ok-words.ensures)

pub returns-then-len-ge-NETWORKS_MOST-clause-err : goal.returns-then-len-ge-NETWORKS_MOST-clause-err
returns-then-len-ge-NETWORKS_MOST-clause-err c =
    let said = rw (c.in-Some.is, c.said.ensures) at c.in_ok-words.ensures in
    let many : networks_most ≤ length c.args.networks.now.items = search rules in
    full said.0 many

pub returns-in-Err-clause-err : goal.returns-in-Err-clause-err
returns-in-Err-clause-err c =
    let said = rw (c.in-Some.is, c.said.ensures) at c.in_ok-words.ensures in
    misspelled c.in-Err.fault said.0 (rw (c.as_slice.ensures.value, said.1) at c.in-Err.ensures.err)

pub returns-clause-ok : goal.returns-clause-ok
returns-clause-ok c =
    let said = rw (c.in-Some.is, c.said.ensures) at c.in_ok-words.ensures in
    rw c.in_ok-push.ensures.items (named c.in-Ok.network said.0 (rw (c.as_slice.ensures.value, said.1) at c.in-Ok.ensures.ok))
