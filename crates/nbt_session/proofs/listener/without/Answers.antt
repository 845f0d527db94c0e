use Rattle.std.proofs.Common.{rules, refl, ◌∙◌, ap, Option}
use Rattle.std.specs.Prelude.{not, filter}
use Rattle.arrayvec.proofs.ArrayVecLemmas.{filter-from_retain}
use Rattle.nbt_name.specs.Wire.{same_name}
use Rattle.nbt_session.specs.declared.listener.Entry.{Entry}
use Rattle.nbt_session.specs.Inner.Listening.{is_for}
use Rattle.nbt_session.proofs.Places.{left_out}
use Rattle.nbt_session.proofs.listener.without.Goals as goal

pub returns : goal.returns
returns g c = λ old are.
    let test = λ (place : Option Entry). not (is_for place c.args.called.now) in
    let kept = filter-from_retain _ test _ (λ x b f y k. (search rules, search rules, search rules)) c.args.entries.now.items c.retain.new.self.items c.retain.ensures.filtered in (
      filter (λ (entry : Entry). not (same_name entry.called c.args.called.now)) old,
      refl,
      kept ∙ (ap (filter test) are ∙ left_out test old),
    )
