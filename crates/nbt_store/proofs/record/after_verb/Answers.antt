use Rattle.nbt_store.proofs.record.after_verb.Goals as goal

pub returns-in-Began : goal.returns-in-Began
returns-in-Began c = rw c.in-Began.is c.began_of.ensures

pub returns-in-Moved : goal.returns-in-Moved
returns-in-Moved c = rw c.in-Moved.is c.moved_of.ensures

pub returns-in-Released : goal.returns-in-Released
returns-in-Released c = rw c.in-Released.is c.released_of.ensures

pub returns-in-Reached : goal.returns-in-Reached
returns-in-Reached c = rw c.in-Reached.is c.reached_of.ensures

pub returns-in-Looked : goal.returns-in-Looked
returns-in-Looked c = rw c.in-Looked.is c.looked_of.ensures
