use Rattle.std.proofs.Common.{rules}
use Rattle.nbt_sim.proofs.Reading.{made}
use Rattle.nbt_sim.proofs.instruction.arguments_of.Goals as goal

pub returns-in-Config : goal.returns-in-Config
returns-in-Config c = λ i. rw c.in-Config.is (made _ _ _ c.read_all.result c.map.result _ i c.read_all.ensures c.map.ensures.cases (λ x r p. search rules))

pub returns-in-At : goal.returns-in-At
returns-in-At c = λ i. rw c.in-At.is (made _ _ _ c.read_all-in-At.result c.map-in-At.result _ i c.read_all-in-At.ensures c.map-in-At.ensures.cases (λ x r p. search rules))

pub returns-in-Advance : goal.returns-in-Advance
returns-in-Advance c = λ i. rw c.in-Advance.is (made _ _ _ c.read_all-in-Advance.result c.map-in-Advance.result _ i c.read_all-in-Advance.ensures c.map-in-Advance.ensures.cases (λ x r p. search rules))

pub returns-in-Start : goal.returns-in-Start
returns-in-Start c = λ i. rw c.in-Start.is (made _ _ _ c.read_all-in-Start.result c.map-in-Start.result _ i c.read_all-in-Start.ensures c.map-in-Start.ensures.cases (λ x r p. search rules))

pub returns-in-Crash : goal.returns-in-Crash
returns-in-Crash c = λ i. rw c.in-Crash.is (made _ _ _ c.read_all-in-Crash.result c.map-in-Crash.result _ i c.read_all-in-Crash.ensures c.map-in-Crash.ensures.cases (λ x r p. search rules))

pub returns-in-Resume : goal.returns-in-Resume
returns-in-Resume c = λ i. rw c.in-Resume.is (made _ _ _ c.read_all-in-Resume.result c.map-in-Resume.result _ i c.read_all-in-Resume.ensures c.map-in-Resume.ensures.cases (λ x r p. search rules))

pub returns-in-Release : goal.returns-in-Release
returns-in-Release c = λ i. rw c.in-Release.is (made _ _ _ c.read_all-in-Release.result c.map-in-Release.result _ i c.read_all-in-Release.ensures c.map-in-Release.ensures.cases (λ x r p. search rules))

pub returns-in-Resolve : goal.returns-in-Resolve
returns-in-Resolve c = λ i. rw c.in-Resolve.is (made _ _ _ c.read_all-in-Resolve.result c.map-in-Resolve.result _ i c.read_all-in-Resolve.ensures c.map-in-Resolve.ensures.cases (λ x r p. search rules))

pub returns-in-Status : goal.returns-in-Status
returns-in-Status c = λ i. rw c.in-Status.is (made _ _ _ c.read_all-asked.result c.map-in-Status.result _ i c.read_all-asked.ensures c.map-in-Status.ensures.cases (λ x r p. search rules))

pub returns-in-Poll : goal.returns-in-Poll
returns-in-Poll c = λ i. rw c.in-Poll.is (made _ _ _ c.read_all-in-Poll.result c.map-in-Poll.result _ i c.read_all-in-Poll.ensures c.map-in-Poll.ensures.cases (λ x r p. search rules))

pub returns-in-Deliver : goal.returns-in-Deliver
returns-in-Deliver c = λ i. rw c.in-Deliver.is (made _ _ _ c.read_all-in-Deliver.result c.map-in-Deliver.result _ i c.read_all-in-Deliver.ensures c.map-in-Deliver.ensures.cases (λ x r p. search rules))

pub returns-in-Holders : goal.returns-in-Holders
returns-in-Holders c = λ i. rw c.in-Holders.is (made _ _ _ c.read_all-in-Holders.result c.map-in-Holders.result _ i c.read_all-in-Holders.ensures c.map-in-Holders.ensures.cases (λ x r p. search rules))

pub returns-in-Kept : goal.returns-in-Kept
returns-in-Kept c = λ i. rw c.in-Kept.is (made _ _ _ c.read_all-in-Kept.result c.map-in-Kept.result _ i c.read_all-in-Kept.ensures c.map-in-Kept.ensures.cases (λ x r p. search rules))

pub returns-in-Timely : goal.returns-in-Timely
returns-in-Timely c = λ i. rw c.in-Timely.is (made _ _ _ c.read_all-in-Timely.result c.map-in-Timely.result _ i c.read_all-in-Timely.ensures c.map-in-Timely.ensures.cases (λ x r p. search rules))

pub returns-in-Ask : goal.returns-in-Ask
returns-in-Ask c = λ i. rw c.in-Ask.is (c.ask_of.ensures i)
