use Rattle.std.proofs.Common.{◌≡◌, ◌∷◌, ap, rules}
use Rattle.nbt_text.specs.Texts.{texts}
use Rattle.nbt_sim.proofs.Reading.{by_verb, by_verb_if, said_exactly}
use Rattle.nbt_sim.proofs.instruction.instruction_of.Goals as goal

pub returns-in-Stranger : goal.returns-in-Stranger
returns-in-Stranger c =
    let whole : c.args.words.now ≡ c.in-Some.first.now ∷ c.in-Some.rest.now = search rules in
    by_verb_if _ _ _ c.verb_of.result c.in-Some-verb_of.verb c.stranger_of.result (ap texts whole) c.verb_of.ensures c.in-Some-verb_of.is (rw c.in-Stranger.is c.stranger_of.ensures)

pub returns-in-Beside : goal.returns-in-Beside
returns-in-Beside c =
    let whole : c.args.words.now ≡ c.in-Some.first.now ∷ c.in-Some.rest.now = search rules in
    by_verb_if _ _ _ c.verb_of.result c.in-Some-verb_of.verb c.beside_of.result (ap texts whole) c.verb_of.ensures c.in-Some-verb_of.is (rw c.in-Beside.is c.beside_of.ensures)

pub returns-in_default-verb : goal.returns-in_default-verb
returns-in_default-verb c =
    let whole : c.args.words.now ≡ c.in-Some.first.now ∷ c.in-Some.rest.now = search rules in
    by_verb _ _ _ c.verb_of.result c.in-Some-verb_of.verb c.arguments_of.result (ap texts whole) c.verb_of.ensures c.in-Some-verb_of.is (said_exactly _ _ c.arguments_of.result c.arguments_of.ensures)
