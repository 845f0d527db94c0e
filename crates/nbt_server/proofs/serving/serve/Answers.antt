use Rattle.std.proofs.Common.{None, refl}
use Rattle.nbt_server.proofs.Common.{by_rule, by_registration, by_refresh, refuses_overwrite, passes_over}
use Rattle.nbt_server.proofs.Rules.{is_for_nodes, nodes_request_nothing, within_limit, on_ok, on_err}
use Rattle.nbt_server.proofs.serving.serve.Goals as goal

pub returns-in-Registration-clause-does : goal.returns-in-Registration-clause-does
returns-in-Registration-clause-does c = rw c.in-Registration.is (on_ok c.lease.result c.lease.ensures.does (λ outcome does. does _ (by_registration _)))

pub returns-in-Registration-clause-memory : goal.returns-in-Registration-clause-memory
returns-in-Registration-clause-memory c = rw c.in-Registration.is (on_err c.lease.result c.lease.ensures.memory (λ needs. needs _ (by_registration _)))

pub returns-in-Refresh-clause-does : goal.returns-in-Refresh-clause-does
returns-in-Refresh-clause-does c = rw c.in-Refresh.is (on_ok c.lease-in-Refresh.result c.lease-in-Refresh.ensures.does (λ outcome does. does _ (by_refresh _)))

pub returns-in-Refresh-clause-memory : goal.returns-in-Refresh-clause-memory
returns-in-Refresh-clause-memory c = rw c.in-Refresh.is (on_err c.lease-in-Refresh.result c.lease-in-Refresh.ensures.memory (λ needs. needs _ (by_refresh _)))

pub returns-in-Overwrite-clause-does : goal.returns-in-Overwrite-clause-does
returns-in-Overwrite-clause-does c = rw (c.in-Overwrite.is, c.refuse.ensures.outcome) (by_rule (within_limit _ _ _ _ _ refl) (_, refuses_overwrite c.in-Overwrite.asked, refl, c.refuse.ensures.written))

pub returns-in-Release-clause-does : goal.returns-in-Release-clause-does
returns-in-Release-clause-does c = rw c.in-Release.is (by_rule (within_limit _ _ _ _ _ refl) (rw c.to_name-name.ensures at c.release.ensures.does))

pub returns-in-Query-clause-does : goal.returns-in-Query-clause-does
returns-in-Query-clause-does c = rw c.in-Query.is (on_ok c.find.result c.find.ensures.does (λ outcome does. by_rule (within_limit _ _ _ _ _ refl) (does c.args.ip)))

pub returns-in_default-clause-does : goal.returns-in_default-clause-does
returns-in_default-clause-does c =
    let nodes = is_for_nodes _ c.in_default.not-Registration c.in_default.not-Overwrite c.in_default.not-Refresh c.in_default.not-Release c.in_default.not-Query in
    by_rule (within_limit _ _ _ _ _ (nodes_request_nothing _ nodes)) (None, passes_over _ nodes, refl, c.requires.empty)

pub returns-in-Registration-clause-room : goal.returns-in-Registration-clause-room
returns-in-Registration-clause-room c = rw c.in-Registration.is (on_err c.lease.result c.lease.ensures.room (λ room. room _ (by_registration _)))

pub returns-in-Refresh-clause-room : goal.returns-in-Refresh-clause-room
returns-in-Refresh-clause-room c = rw c.in-Refresh.is (on_err c.lease-in-Refresh.result c.lease-in-Refresh.ensures.room (λ room. room _ (by_refresh _)))
