-- What several proofs share; the proof of a function is in the folder of its module and its name.

-- turns of a server, and one of them by what its port, its clock and its server returned
pub mod ServerTurns
pub mod OneServerTurn
mod OneTurn
-- what a message that is read says, and what is taken for a registration
pub mod SambaReading
pub mod SambaTaken
pub mod SambaOthers
-- what is kept of leases, after each change
pub mod Kept
-- what the server did with a datagram, and the change that it is
pub mod Told
-- a server that resumes with what was kept
pub mod Resumed
-- which name a request was about, and for which one a query asked
mod Named
-- what waits leaves, what becomes of a client's share, and what a datagram makes of a server and of what waits
mod Never
mod Shares
mod Leaving
mod Taking
mod Passed
-- what came of a look at the file
mod Looked
-- what is kept where a server's live leases are written in place of all
mod Renewed
-- what was left out of a list, items of one in any order, and the last time of changes
mod Left
mod Among
-- a query, and what else would have answered it alike
mod Asked
-- what a crash leaves, call by call, and of whole runs
mod Crashes
mod Runs
mod WholeRuns
