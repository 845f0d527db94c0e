use Rattle.std.proofs.Common.{◌≡◌, ◌∷◌, ap, rules}
use Rattle.nbt_text.specs.Texts.{texts}
use Rattle.nbt_store.specs.declared.form.Form.TheVariants.{Two, Three}
use Rattle.nbt_store.proofs.Saying.{by_verb}
use Rattle.nbt_store.proofs.record.change_of.Goals as goal

pub returns-in-Two : goal.returns-in-Two
returns-in-Two c =
    let whole : c.args.words.now ≡ c.in_ok-first.first.now ∷ c.in_ok-first.rest.now = search rules in
    rw c.in-Two.is (by_verb Two _ _ _ c.verb_of.result c.in_ok-verb.verb c.after_older_verb.result (ap texts whole) c.verb_of.ensures c.in_ok-verb.was c.after_older_verb.ensures)

pub returns-in-Three : goal.returns-in-Three
returns-in-Three c =
    let whole : c.args.words.now ≡ c.in_ok-first.first.now ∷ c.in_ok-first.rest.now = search rules in
    rw c.in-Three.is (by_verb Three _ _ _ c.verb_of.result c.in_ok-verb.verb c.after_verb.result (ap texts whole) c.verb_of.ensures c.in_ok-verb.was c.after_verb.ensures)
