-- What several proofs share; the proof of a law is in the folder of its name.

-- a server that stays up is at work with its devices, one thing after another
mod Unfolded
-- and so is a whole one, from its start to its end
mod Whole
-- over crashes
mod Onwards
-- what is shown of some turns, and then of others
mod Showing
-- a server that stays up is watched, one thing after another
mod Watching
-- and so is a whole one
mod Overall
-- what is said after any events
mod Saying
-- what is printed of the lines of a log
mod Printing
-- how many looks a list takes
mod Parts
-- how old the lists and the statistics are
mod Aging
