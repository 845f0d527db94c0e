-- What several proofs share; the proof of a function is in the folder of its module and its name.

-- how many addresses haven't replied
pub mod Counting
-- the place of an address
pub mod Placing
-- the first name that passes, and a node status response
pub mod Firsts
pub mod Answering
-- what is done at a moment, what a turn does, and turns up to the end
pub mod Asking
pub mod Hearings
pub mod Turns
-- how many addresses runs have
pub mod Sizes
-- texts written one after another
pub mod Parts
-- what texts spell
pub mod Spelling
-- a list of names in an object of JSON
pub mod Objects
