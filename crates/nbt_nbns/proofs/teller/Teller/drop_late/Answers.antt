use Rattle.std.proofs.Common.{◌≡◌, List, subst, rules, tests}
use Rattle.std.specs.Prelude.{filter}
use Rattle.std.proofs.lemmas.Fn.{filter_same}
use Rattle.nbt_nbns.specs.Teller.{is_shown}
use Rattle.nbt_nbns.specs.declared.teller.Untold.{Untold}
use Rattle.nbt_nbns.proofs.teller.Teller.drop_late.Goals as goal

pub returns : goal.returns
returns c =
    let inside = c.self.inside in
    let shown = is_shown c.args.limits.life c.args.left in
    let kept = filter_same _ (λ (turn : Untold). is_shown c.args.limits.life c.args.left turn) _ (λ x b q k. (search (rules, tests), search rules)) inside.untold.items c.retain.new.self.items c.retain.ensures.filtered in
    subst (λ (us : List Untold). c.retain.new.self.items ≡ filter shown us) c.self.view_is kept
