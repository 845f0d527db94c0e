use Rattle.std.proofs.Common.{[], ◌∷◌, ◌++◌, List, None, get_or, sym, ap, ◌∙◌}
use Rattle.std.proofs.lemmas.List.{map_more}
use Rattle.nbt_name.specs.declared.addr.Addr.{Addr}
use Rattle.nbt_world.specs.declared.ends.NodeEnd.{NodeEnd}
use Rattle.nbt_world.proofs.ends.Ends.new.Goals as goal

pub loop-addr-preserved : goal.loop-addr-preserved
loop-addr-preserved c =
    c.push.ensures.items
    ∙ ap (λ (items : List NodeEnd). items ++ record { addr = get_or c.args.others.now c.loop-addr.addr-index (record { ip = 0; port = 0 }); node = None } ∷ []) c.loop-addr.invariant
    ∙ sym (map_more (λ (a : Addr). record { addr = a; node = None }) c.args.others.now c.loop-addr.addr-index (record { ip = 0; port = 0 }) c.loop-addr-test.true)
