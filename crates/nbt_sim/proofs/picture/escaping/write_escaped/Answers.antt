use Rattle.std.proofs.Common.{◌≡◌, ℕ, List, [], ◌∷◌, ◌++◌, sym, ◌∙◌, append_assoc}
use Rattle.std.proofs.lemmas.List.{append-nil, nil_from_length}
use Rattle.std.specs.String.{string_bytes}
use Rattle.nbt_sim.specs.Escaping.{written, written_octet}
use Rattle.nbt_sim.proofs.picture.escaping.write_escaped.Goals as goal

-- one octet more is written
one_more : (octet : ℕ) (rest others before after all : List ℕ) → rest ≡ octet ∷ others → after ≡ before ++ written_octet octet → before ++ written rest ≡ all
    → after ++ written others ≡ all
one_more octet rest others before after all is wrote kept = rw wrote (append_assoc before (written_octet octet) (written others) ∙ (rw is at kept))

-- all of them are
all_written : (rest before all : List ℕ) → rest ≡ [] → before ++ written rest ≡ all → before ≡ all
all_written rest before all none kept = sym (append-nil before) ∙ (rw none at kept)

pub octets-preserved : goal.octets-preserved
octets-preserved c = one_more c.in-Some.octet.now c.octets.rest.now c.in-Some.others.now (string_bytes c.octets.out) (string_bytes c.write_octet.new.out) _ c.in-Some.ensures.cases.0 c.in_ok-write_octet.ensures c.octets.invariant

pub returns : goal.returns
returns c = all_written c.octets.rest.now (string_bytes c.octets.out) _ (nil_from_length c.octets.rest.now c.in_default.ensures.cases) c.octets.invariant
