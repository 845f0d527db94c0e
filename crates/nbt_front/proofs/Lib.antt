-- What several proofs share; the proof of a function is in the folder of its module and its name.

-- a front decides of a message in one way, of some messages, and of no other
pub mod OneDecision
pub mod Decided
-- what was fixed before another front took the place of one
pub mod Past
-- what is done with a message, by what was found of its name
pub mod Rulings
-- what becomes of a receive beneath a front
pub mod Passing
-- a file of fixed names, line by line
pub mod LineByLine
-- a file of networks, line by line
pub mod NetworkByNetwork
-- the network that a text spells
pub mod Splits
