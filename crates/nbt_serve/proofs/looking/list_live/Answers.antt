use Rattle.std.proofs.Common.{◌++◌, ap, ◌∙◌, rules, tests}
use Rattle.std.specs.List.{filter}
use Rattle.std.proofs.lemmas.Fn.{filter_same}
use Rattle.nbt_name.specs.Wire.{NameValue}
use Rattle.nbt_lease.specs.declared.lease.Lease.{Lease}
use Rattle.nbt_lease.specs.Lease.{Rows, TableValue, is_live}
use Rattle.nbt_serve.proofs.looking.list_live.Goals as goal

pub returns : goal.returns
returns c =
    filter_same _ (λ (row : NameValue × Lease). is_live c.args.server.now.last row.1) _ (λ x b q k. (search (rules, tests), search rules)) c.list_rows.new.out.items c.retain.new.self.items c.retain.ensures.filtered
    ∙ ap (λ (rs : Rows). filter (λ (row : NameValue × Lease). is_live c.args.server.now.last row.1) rs)
    (c.in_ok-list_rows.ensures ∙ (ap (λ (rs : Rows). rs ++ c.table.result.now.rows) c.clear.ensures.items ∙ ap (λ (t : TableValue). t.rows) c.table.ensures.table))
