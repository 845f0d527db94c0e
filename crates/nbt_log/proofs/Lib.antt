-- What several proofs share; the proof of a function is in the folder of its module and its name.

-- which line may be printed
mod Remembering
-- which kind is due
mod Summing
-- a name filled up with spaces, and the one host whose it is
mod Filling
-- how live names that read alike are spelled, row after row
mod Alike
-- a list, part after part
mod Drafting
