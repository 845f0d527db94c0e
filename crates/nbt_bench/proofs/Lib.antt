-- What several proofs share; the proof of a function is in the folder of its module and its name.

-- a server and a node begin, and an error that is passed on
pub mod Beginning
-- the turns of a node
pub mod Turning
