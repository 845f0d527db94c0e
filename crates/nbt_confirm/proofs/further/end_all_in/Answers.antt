use Rattle.std.proofs.Common.{rules, tests}
use Rattle.std.specs.Prelude.{not}
use Rattle.std.proofs.lemmas.Fn.{filter_same}
use Rattle.nbt_confirm.specs.Further.{is_of}
use Rattle.nbt_confirm.specs.declared.further.Further.{Further}
use Rattle.nbt_confirm.proofs.further.end_all_in.Goals as goal

pub returns-clause-rows : goal.returns-clause-rows
returns-clause-rows c =
    filter_same _ (λ (row : Further). not (is_of c.args.name.now row)) _ (λ x b q k. (search (rules, tests), search rules)) c.args.rows.now.items c.retain.new.self.items c.retain.ensures.filtered
