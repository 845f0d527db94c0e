use Rattle.std.proofs.Common.{◌≡◌, ℕ, List, subst, rules}
use Rattle.std.specs.Prelude.{◌↔◌, Contains, IsTrue}
use Rattle.std.specs.Str.{bytes_eq}
use Rattle.std.proofs.lemmas.List.Elements.{Decides-contains, contains_decides}
use Rattle.std.proofs.lemmas.Slice.Eq.{bytes_eq-Decides}
use Rattle.nbt_log.proofs.casing.FixedCapitals.has.Goals as goal

pub returns : goal.returns
returns c =
    let same : c.as_slice.result.now ≡ c.args.self.now = search rules in
    subst (λ (names : List (List ℕ)). IsTrue c.contains.result ↔ Contains names c.args.capitals.now) same
    (Decides-contains c.as_slice.result.now c.args.capitals.now c.contains.result (contains_decides bytes_eq bytes_eq-Decides c.as_slice.result.now c.args.capitals.now c.contains.result c.contains.ensures.cases))
