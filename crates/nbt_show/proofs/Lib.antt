-- What several proofs share; the proof of a function is in the folder of its module and its name.

-- a reader returns one value, or one fault
mod Readings
-- where FLAGS stands in a datagram, and where it has no names
pub mod Datagrams
-- what the parts of a session's octets make, up to the end of one packet
pub mod NextPacket
-- the lines of a session's packets so far
pub mod Sessions
-- the words of a vector, one by one
pub mod Vectors
-- what stands in a line, and the verdicts on the lines so far
pub mod LineByLine
-- rows that are printed one after the other
pub mod Rows
-- nothing is printed of messages that are no replies
mod NoReply
