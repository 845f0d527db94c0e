use Rattle.nbt_front.proofs.names.FixedNames.add.Goals as goal

pub returns-clause-ok : goal.returns-clause-ok
returns-clause-ok c = record {
  fixed = c.in-Ok.fixed;
  joins = c.in-Ok.ensures.ok;
  room = c.in-Ok.ensures.room;
  names_are = λ name. rw (← c.self.view_is) (c.in_ok-insert.ensures.updates.0 name);
}
