-- What several proofs share; the proof of a function is in the folder of its module and its name.

-- a store in a folder
mod Folders
-- a server begins, over this machine
mod Beginning
-- what is said of one that would begin
mod Checks
-- what became of a look at the statistics, and of one at a list
mod Looking
mod Listed
-- what waits behind what was written of a log
mod Outgoing
-- what a watcher is shown after a turn, and what came of a turn
mod Telling
mod Stayed
-- what becomes of a front after a turn
mod Renewed
