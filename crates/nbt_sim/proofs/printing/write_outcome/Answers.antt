use Rattle.std.proofs.Common.{◌++◌, List, ℕ, append_assoc, codes}
use Rattle.std.specs.Fmt.{decimal}
use Rattle.nbt_sim.proofs.Written.{line_written}
use Rattle.nbt_sim.proofs.Worlds.{refusal_named}
use Rattle.nbt_sim.specs.Script.{PrintsOutcome, done, sent, refused, nothing, down, nobody, lost, taken}
use Rattle.nbt_sim.proofs.printing.write_outcome.Goals as goal

pub word_of_refusal-word-requires : goal.word_of_refusal-word-requires
word_of_refusal-word-requires c = refusal_named c.requires.0 c.requires.1 c.args.event.now c.args.outcome c.in-Refused.number c.requires.2 c.in-Refused.is

pub returns-in-Done : goal.returns-in-Done
returns-in-Done c = line_written c.writeln.result (λ (x : List ℕ). PrintsOutcome c.args.event.now c.args.outcome x) _ _ (codes "ok") (simp append_assoc c.writeln.ensures.bytes) (rw c.in-Done.is (done))

pub returns-in-Sent : goal.returns-in-Sent
returns-in-Sent c = line_written c.writeln-in-Sent.result (λ (x : List ℕ). PrintsOutcome c.args.event.now c.args.outcome x) _ _ ((codes "sent " ++ decimal c.in-Sent.k)) (simp append_assoc c.writeln-in-Sent.ensures.bytes) (rw c.in-Sent.is (sent c.in-Sent.k))

pub returns-in-Refused : goal.returns-in-Refused
returns-in-Refused c = line_written c.writeln-in-Refused.result (λ (x : List ℕ). PrintsOutcome c.args.event.now c.args.outcome x) _ _ ((codes "refused " ++ decimal c.in-Refused.number ++ codes " " ++ c.word_of_refusal-word.result.now)) (simp append_assoc c.writeln-in-Refused.ensures.bytes) (rw c.in-Refused.is (refused c.in-Refused.number c.word_of_refusal-word.result.now c.word_of_refusal-word.ensures))

pub returns-in-Nothing : goal.returns-in-Nothing
returns-in-Nothing c = line_written c.writeln-in-Nothing.result (λ (x : List ℕ). PrintsOutcome c.args.event.now c.args.outcome x) _ _ (codes "none") (simp append_assoc c.writeln-in-Nothing.ensures.bytes) (rw c.in-Nothing.is (nothing))

pub returns-in-Down : goal.returns-in-Down
returns-in-Down c = line_written c.writeln-in-Down.result (λ (x : List ℕ). PrintsOutcome c.args.event.now c.args.outcome x) _ _ (codes "down") (simp append_assoc c.writeln-in-Down.ensures.bytes) (rw c.in-Down.is (down))

pub returns-in-Nobody : goal.returns-in-Nobody
returns-in-Nobody c = line_written c.writeln-in-Nobody.result (λ (x : List ℕ). PrintsOutcome c.args.event.now c.args.outcome x) _ _ (codes "nobody") (simp append_assoc c.writeln-in-Nobody.ensures.bytes) (rw c.in-Nobody.is (nobody))

pub returns-in-Lost : goal.returns-in-Lost
returns-in-Lost c = line_written c.writeln-in-Lost.result (λ (x : List ℕ). PrintsOutcome c.args.event.now c.args.outcome x) _ _ (codes "lost") (simp append_assoc c.writeln-in-Lost.ensures.bytes) (rw c.in-Lost.is (lost))

pub returns-in-Taken : goal.returns-in-Taken
returns-in-Taken c = line_written c.writeln-in-Taken.result (λ (x : List ℕ). PrintsOutcome c.args.event.now c.args.outcome x) _ _ (codes "taken") (simp append_assoc c.writeln-in-Taken.ensures.bytes) (rw c.in-Taken.is (taken))
