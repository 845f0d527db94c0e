use Rattle.std.proofs.Common.{◌≡◌, ◌≢◌, ◌≤◌, ◌<◌, ℕ, List, [], ◌∷◌, ◌++◌, length, refl, sym, ◌∙◌, Some, rules}
use Rattle.std.specs.Prelude.{Contains}
use Rattle.nbt_name.specs.declared.addr.Kind.{Kind}
use Rattle.nbt_name.specs.declared.addr.Kind.TheVariants.{Unique, Group}
use Rattle.nbt_front.specs.FixedNames.{FixedValue}
use Rattle.nbt_front.specs.Files.{Joins, further, IsBarred, other_kind, unique_twice, address_twice, many}
use Rattle.nbt_front.specs.Numbers.{addrs_most}
use Rattle.nbt_front.specs.declared.line.FixedLine.{FixedLine}
use Rattle.nbt_front.specs.declared.fault.LineFault.TheVariants as f
use Rattle.nbt_front.proofs.Rulings.{denied}
use Rattle.nbt_front.proofs.fixed.Fixed.with.Goals as goal

-- what isn't unique is a group
group : (kind : Kind) → kind ≢ Unique → kind ≡ Group
group Unique not = absurd (not refl)
group Group not = refl

address_barred : (fixed : FixedValue) (line : FixedLine) → fixed.kind ≡ line.kind → fixed.kind ≢ Unique → Contains fixed.addrs line.addr → (count : ℕ) → IsBarred count (Some fixed) line f.Twice
address_barred fixed line same not there count = address_twice fixed line (group fixed.kind not) (sym same ∙ group fixed.kind not) there

many_barred : (fixed : FixedValue) (line : FixedLine) → fixed.kind ≡ line.kind → fixed.kind ≢ Unique → ¬ Contains fixed.addrs line.addr → addrs_most ≤ length fixed.addrs → (count : ℕ) → IsBarred count (Some fixed) line f.Many
many_barred fixed line same not none full count = many fixed line (group fixed.kind not) (sym same ∙ group fixed.kind not) none full

joins_further : (fixed : FixedValue) (line : FixedLine) (addrs : List ℕ) → fixed.kind ≡ line.kind → fixed.kind ≢ Unique → ¬ Contains fixed.addrs line.addr → length fixed.addrs < addrs_most → addrs ≡ fixed.addrs ++ line.addr ∷ []
    → Joins (Some fixed) line (record { kind = fixed.kind; addrs = addrs })
joins_further fixed line addrs same not none room is = rw is (further fixed line (group fixed.kind not) (sym same ∙ group fixed.kind not) none room)

pub returns-then-ne-clause-err : goal.returns-then-ne-clause-err
returns-then-ne-clause-err c =
    let differ : c.args.self.now.kind ≢ c.args.line.now.kind = search rules in
    λ count. other_kind c.args.self.now c.args.line.now differ

pub returns-then-eq-clause-err : goal.returns-then-eq-clause-err
returns-then-eq-clause-err c =
    let same : c.args.self.now.kind ≡ c.args.line.now.kind = search rules in
    let unique : c.args.self.now.kind ≡ Unique = search rules in
    λ count. unique_twice c.args.self.now c.args.line.now unique (sym same ∙ unique)

pub returns-then-has-clause-err : goal.returns-then-has-clause-err
returns-then-has-clause-err c =
    let same : c.args.self.now.kind ≡ c.args.line.now.kind = search rules in
    let not : c.args.self.now.kind ≢ Unique = search rules in
    address_barred c.args.self.now c.args.line.now same not (c.has.ensures.0 c.if-has.true)

pub returns-then-is_full-clause-err : goal.returns-then-is_full-clause-err
returns-then-is_full-clause-err c =
    let same : c.args.self.now.kind ≡ c.args.line.now.kind = search rules in
    let not : c.args.self.now.kind ≢ Unique = search rules in
    let full : addrs_most ≤ length c.args.self.now.addrs = search rules in
    many_barred c.args.self.now c.args.line.now same not (denied c.has.result c.has.ensures.1 c.if-has.false) full

pub returns-clause-ok : goal.returns-clause-ok
returns-clause-ok c =
    let same : c.args.self.now.kind ≡ c.args.line.now.kind = search rules in
    let not : c.args.self.now.kind ≢ Unique = search rules in
    let room : length c.args.self.now.addrs < addrs_most = search rules in
    let is : c.push.new.self.items ≡ c.args.self.now.addrs ++ c.args.line.now.addr ∷ [] = search rules in
    let kind_is : c.self.inside.kind ≡ c.args.self.now.kind = search rules in
    rw kind_is (joins_further c.args.self.now c.args.line.now c.push.new.self.items same not (denied c.has.result c.has.ensures.1 c.if-has.false) room is)
