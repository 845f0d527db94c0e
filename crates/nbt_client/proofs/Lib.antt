-- What several proofs share; the proof of a function is in the folder of its module and its name.

-- a node has octets to send only where it reports a status request
pub mod Hearing
-- a poll that has something leaves less that is due
pub mod Dues
-- the calls of a node, and a turn of it
pub mod Sending
pub mod Turns
pub mod OneTurn
-- a turn of a lookup, and turns up to its end
pub mod LookupTurns
-- what a reply lists
mod Listed
