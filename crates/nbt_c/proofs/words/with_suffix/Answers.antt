use Rattle.nbt_c.proofs.Common.{rules, ◌≡◌, [], ◌∷◌, ◌++◌}
use Rattle.nbt_c.proofs.Forms.{word_pushed}
use Rattle.nbt_c.proofs.words.with_suffix.Goals as goal

pub returns : goal.returns
returns c =
    let first : c.push.new.self.items ≡ c.args.front.now ++ 0x23 ∷ [] = search rules in
    word_pushed c.args.front.now c.push.new.self.items c.push-2.new.self.items c.push-3.new.self.items c.args.suffix c.from.result c.from-2.result first c.from.ensures c.from-2.ensures c.push-2.ensures.items c.push-3.ensures.items
