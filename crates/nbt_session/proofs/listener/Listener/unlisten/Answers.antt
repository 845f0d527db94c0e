use Rattle.std.proofs.Common.{◌∙◌, sym, ap, map, Some}
use Rattle.std.specs.Prelude.{not, filter}
use Rattle.nbt_name.specs.Wire.{same_name}
use Rattle.nbt_session.specs.declared.listener.Entry.{Entry}
use Rattle.nbt_session.specs.Inner.Listening.{entries_in}
use Rattle.nbt_session.proofs.Places.{they_are}
use Rattle.nbt_session.proofs.listener.Listener.unlisten.Goals as goal

pub invariant_of-self : goal.invariant_of-self
invariant_of-self g c =
    let left = c.without.ensures (entries_in c.self.inside.entries.items) c.self.invariant in
    left.2 ∙ ap (map Some) (sym (they_are c.without.new.entries.items left.0 left.2))

pub returns-clause-entries : goal.returns-clause-entries
returns-clause-entries g c =
    let left = c.without.ensures (entries_in c.self.inside.entries.items) c.self.invariant in
    they_are c.without.new.entries.items left.0 left.2 ∙ (left.1 ∙ ap (λ v. filter (λ (entry : Entry). not (same_name entry.called c.args.called.now)) v.entries) c.self.view_is)
