use Rattle.std.proofs.Common.{rules, tests}
use Rattle.std.proofs.lemmas.Fn.{filter_same}
use Rattle.nbt_confirm.specs.Further.{is_kept}
use Rattle.nbt_confirm.specs.declared.further.Further.{Further}
use Rattle.nbt_confirm.proofs.further.sweep_in.Goals as goal

pub returns-clause-rows : goal.returns-clause-rows
returns-clause-rows c =
    filter_same _ (λ (row : Further). is_kept c.args.now row) _ (λ x b q k. (search (rules, tests), search rules)) c.args.rows.now.items c.retain.new.self.items c.retain.ensures.filtered
