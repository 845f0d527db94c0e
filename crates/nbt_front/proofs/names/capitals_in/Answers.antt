use Rattle.std.proofs.Common.{◌≡◌, ◌++◌, ◌∷◌, [], List, ℕ, sym, ap, ◌∙◌, append_assoc}
use Rattle.nbt_name.specs.Wire.{NameValue}
use Rattle.nbt_log.specs.Hosts.{in_capitals}
use Rattle.nbt_front.specs.FixedNames.{FixedNames, FixedValue, capitals_of}
use Rattle.nbt_front.proofs.names.capitals_in.Goals as goal

-- one name more
one_more : (before new whole : List (List ℕ)) (rest others : FixedNames) (name : NameValue) (fixed : FixedValue) (octets : List ℕ) → rest ≡ (name, fixed) ∷ others
    → octets ≡ name.octets → new ≡ before ++ in_capitals octets ∷ [] → before ++ capitals_of rest ≡ whole → new ++ capitals_of others ≡ whole
one_more before new whole rest others name fixed octets parts same is so_far =
    rw (is, same, append_assoc) (ap (λ (entries : FixedNames). before ++ capitals_of entries) (sym parts) ∙ so_far)

pub names-preserved : goal.names-preserved
names-preserved c =
    one_more c.names.capitals c.add.new.self _ c.names.rest c.in-Some.others c.in-Some.name.now c.in-Some.field-0-0-1.now c.octets.result.now c.in-Some.ensures.parts c.octets.ensures.value c.in_ok-add.ensures c.names.invariant
