-- What several proofs share; the proof of a function is in the folder of its module and its name.

-- the words and the lemmas of std that most of them cite
pub mod Common
-- what a reader sees at a spot is one thing: a step, a fault or the end
pub mod Seen
-- so one path leads from each place, to one end
pub mod Walk
-- half-ASCII: letters, and the octets that they spell
pub mod Letters
-- scopes, label by label
pub mod Scopes
-- what `get` returns, in the words of specs/
pub mod Looks
-- the reader's steps in the code are steps of its spot
pub mod Passing
-- no wire form begins another; what is passed on a path begins one
pub mod WireForms
-- at each place stands one name or one fault, and the reader comes to an end
pub mod Ends
-- a reader that knows its scope's length alone comes to an end too
pub mod Scoped
-- the reader makes at most 112 steps for each octet, and 112 more
pub mod Counts
-- labels stand in one row from each place on, which is the one that a reader passes
pub mod Places
-- in all octets, at each place, stands one of the two
pub mod Looking
-- a wire form is read as its name, wherever it stands
pub mod ReadBack
-- where a plain name stands, its octets are its wire form
pub mod PlainForms
-- two names are one, or they are told apart
pub mod Same
-- octets, numbers and wire forms have their ranges and sizes
pub mod Fits
-- words, ranges and names that were put somewhere are read back there
pub mod Behind
-- a reader that is put together from others finds one value or one fault
pub mod Readers
