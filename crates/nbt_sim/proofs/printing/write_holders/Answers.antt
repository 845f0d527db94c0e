use Rattle.std.proofs.lemmas.Result.{on_ok_weaker}
use Rattle.nbt_sim.proofs.Written.{holders_written}
use Rattle.nbt_sim.proofs.printing.write_holders.Goals as goal

pub returns : goal.returns
returns c =
    let name = c.in_ok-write_name.ensures in
    on_ok_weaker c.end_line.result (λ end. (name.0, name.2, holders_written _ _ _ _ _ _ name.0 c.args.holders.now c.in_ok-push_str.ensures.bytes name.1 c.in_ok-push_str-2.ensures.bytes c.in_ok-write_list.ensures end)) c.end_line.ensures
