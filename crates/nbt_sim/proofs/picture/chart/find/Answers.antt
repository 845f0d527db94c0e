use Rattle.std.proofs.Common.{◌≡◌, ◌∙◌, ℕ, ◌<◌, ◌≤◌, List, length, get_or, false, Some, ap, refl, sym, arith, below_more}
use Rattle.std.proofs.lemmas.Bool.{both_ways}
use Rattle.std.proofs.lemmas.Option.{slice_get_read, slice_get_within}
use Rattle.std.specs.Prelude.{slice_get}
use Rattle.nbt_name.specs.Wire.{NameValue, same_name}
use Rattle.nbt_name.proofs.Same.{same_name-true, same_name-same}
use Rattle.nbt_sim.specs.Inner.Standing.{IsAbsent}
use Rattle.nbt_sim.proofs.picture.chart.find.Goals as goal

-- the name at the next place is another one
other_here : (names : List NameValue) (place : ℕ) (other name : NameValue) → place < length names → other ≡ get_or names place other → same_name other name ≡ false → ¬ (slice_get names place ≡ Some name)
other_here names place other name within is differ = λ e.
    let here : slice_get names place ≡ Some other = slice_get_read names (length names) place other refl within is in
    let same : other ≡ name = cc in
    both_ways (same_name other name) differ (ap (λ (n : NameValue). same_name other n) (sym same) ∙ same_name-same other)

-- it stands at none of the places
absent : (names : List NameValue) (place : ℕ) (name : NameValue) → length names ≤ place → ((k : ℕ) → k < place → ¬ (slice_get names k ≡ Some name)) → IsAbsent name names
absent names place name past before = λ k e. before k (omega (arith, slice_get_within names k name e)) e

pub names-preserved : goal.names-preserved
names-preserved c = below_more _ _ c.names.invariant (other_here c.args.names.now c.names.place c.index-names-place.result c.args.name.now c.names-test.true c.index-names-place.is (sym c.eq.ensures ∙ c.if-eq.false))

pub returns-then-eq : goal.returns-then-eq
returns-then-eq c =
    slice_get_read c.args.names.now (length c.args.names.now) c.names.place c.args.name.now refl c.names-test.true
    (let same : c.index-names-place.result ≡ c.args.name.now = same_name-true c.index-names-place.result c.args.name.now (sym c.eq.ensures ∙ c.if-eq.true) in rw same at c.index-names-place.is)

pub returns : goal.returns
returns c = absent c.args.names.now c.names.place c.args.name.now c.names-test.false c.names.invariant
