use Rattle.nbt_dgram.specs.Dgram.{fragment_of}
use Rattle.nbt_dgram.proofs.Agreeing.{agrees_iff}
use Rattle.nbt_dgram.proofs.slot.Slot.agrees.Goals as goal

pub returns : goal.returns
returns c =
    agrees_iff c.args.self.now (fragment_of c.args.fragment.now) c.begin.result c.end.result c.end-2.result c.agree.result c.begin.ensures.value c.end.ensures c.end-2.ensures
    (c.is.ensures.0 c.if-not-is.false) (c.are_same_names.ensures.0 c.if-not-are_same_names.false) (c.is_same_end.ensures.0 c.if-not-is_same_end.false)
    (c.is_behind_all.ensures.0 c.if-not-is_behind_all.false) c.agree.ensures
