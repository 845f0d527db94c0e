-- What several proofs share; the proof of a function is in the folder of its module and its name.

-- the words and the lemmas of std that most of them cite
pub mod Common
-- the counts of a header, one by one
pub mod Header
-- which sections a packet has, and what they are not
pub mod Reasons
-- no packet meets two lines of the table of messages
pub mod OneMessage
-- all octets begin with one packet or have one fault, and no octets spell two messages
pub mod OnePacket
-- the parts that the writer puts together are a node status's written form
pub mod Written
-- sections that were written stand where they were put, and make a packet
pub mod Shapes
-- so each written form is a packet that spells its message
pub mod ReadBack
-- how long written forms are
pub mod Sizes
-- a message that octets spell can be written
pub mod Writable
