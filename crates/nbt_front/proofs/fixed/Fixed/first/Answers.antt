use Rattle.std.proofs.Common.{◌≡◌, ℕ, List, [], ◌∷◌, refl, None}
use Rattle.nbt_front.specs.Files.{Joins, first}
use Rattle.nbt_front.specs.declared.line.FixedLine.{FixedLine}
use Rattle.nbt_front.proofs.fixed.Fixed.first.Goals as goal

joins_first : (line : FixedLine) (addrs : List ℕ) → addrs ≡ line.addr ∷ [] → Joins None line (record { kind = line.kind; addrs = addrs })
joins_first line addrs is = rw is (first line)

pub returns : goal.returns
returns c = joins_first c.args.line.now c.push.new.self.items (rw c.push.ensures.items (rw c.new-addrs.ensures refl))
