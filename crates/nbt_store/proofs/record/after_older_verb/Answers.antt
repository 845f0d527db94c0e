use Rattle.nbt_store.proofs.record.after_older_verb.Goals as goal

pub returns-in-Began : goal.returns-in-Began
returns-in-Began c = rw c.in-Began.is c.older_began_of.ensures

pub returns-in-Moved : goal.returns-in-Moved
returns-in-Moved c = rw c.in-Moved.is c.older_moved_of.ensures

pub returns-in-Released : goal.returns-in-Released
returns-in-Released c = rw c.in-Released.is c.older_released_of.ensures
