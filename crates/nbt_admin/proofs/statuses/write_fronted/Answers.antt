use Rattle.std.proofs.Common.{◌+◌, true, drop, get_or, refl}
use Rattle.std.proofs.lemmas.List.{drop_more, drop_all}
use Rattle.nbt_admin.specs.Statuses.{fronted}
use Rattle.nbt_admin.proofs.Asked.{fronted_on, fronted_all}
use Rattle.nbt_admin.proofs.statuses.write_fronted.Goals as goal

pub loop-octet-init : goal.loop-octet-init
loop-octet-init c = refl

pub loop-octet-preserved : goal.loop-octet-preserved
loop-octet-preserved c =
    let i = c.loop-octet.octet-index in
    let text = c.args.text.now in
    rw c.is_line_feed-begins.ensures
    (fronted_on c.args.host.now c.loop-octet.begins (get_or text i 0) (drop i text) (drop (i + 1) text) c.args.out.now.items c.loop-octet.out.items c.write_octet.new.out.items (fronted c.args.host.now true text)
    (drop_more text i 0 c.loop-octet-test.true) c.in_ok-write_octet.ensures c.loop-octet.invariant)

pub returns : goal.returns
returns c =
    let i = c.loop-octet.octet-index in
    let text = c.args.text.now in
    fronted_all c.args.host.now c.loop-octet.begins (drop i text) c.args.out.now.items c.loop-octet.out.items (fronted c.args.host.now true text) (drop_all i text c.loop-octet-test.false) c.loop-octet.invariant
