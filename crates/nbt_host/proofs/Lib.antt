-- What several proofs share; the proof of a function is in the folder of its module and its name.

-- what is said of a message, and what is sent back
pub mod Replies
-- a receive, the look at the clocks after it, and what is made of what came
mod Listening
-- a reading of a machine's two clocks, each by itself; one reading for all
mod Ticking
mod Anchors
-- how long a refused name waits
pub mod BackingOff
-- the requests of names, one after the other
pub mod Orders
-- a turn by its parts, and turns up to the end of a host
pub mod Turns
pub mod Releases
-- the lines of names, one after the other
mod Lines
-- what a port has noted after a turn's calls
pub mod NotedCalls
-- one turn, by what its calls returned
mod OneTurn
-- a turn of which nothing is printed
mod Quiet
-- what is known of a host by its fields, said of the host
mod Opened
-- a host begins, and what follows from how its calls came out
mod Beginning
-- the end of a host, by how the releases came out
mod Ended
-- names that a host left, before a request was sent
pub mod Freshness
-- their requests, the calls of a turn, and turns up to the end
pub mod Sendings
pub mod Passing
-- what a receive was
pub mod Receiving
