-- What several proofs share; the proof of a function is in the folder of its module and its name.

-- what is written of a name is read as that name
pub mod Written
