use Rattle.nbt_c.proofs.Common.{Some, sym, ap, subst, ◌∙◌, StartsListener, none_of}
use Rattle.nbt_c.specs.Listening as is
use Rattle.nbt_c.proofs.listener.nbt_listener_start.Goals as goal

pub returns-then-most-gt-SLOTS : goal.returns-then-most-gt-SLOTS
returns-then-most-gt-SLOTS c = subst (StartsListener c.args.most 251) (sym (none_of c.args.listener.now.listener c.requires)) (is.StartsListener.has_many c.if-most-gt-SLOTS.true)

pub returns : goal.returns
returns c = subst (StartsListener c.args.most 0) (sym (c.put.ensures ∙ ap Some c.new.ensures)) (is.StartsListener.starts c.if-most-gt-SLOTS.false)
