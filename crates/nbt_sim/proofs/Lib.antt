-- What several proofs share; the proof of a function is in the folder of its module and its name.

-- the words of a line one by one
pub mod Texts
-- what words say, one by one: nodes, ends, numbers
pub mod Spelled
-- what lines say: their parts, and that the code finds these and no others
pub mod Reading
-- what a step leaves, and whose fault a refusal is
pub mod Worlds
-- lines that are written, and lists of holders
pub mod Written
-- the addresses of the ends, and numbers for them
pub mod Places
-- what the lines have printed so far
pub mod Playing
-- what is written of a text in an XML document is read as that text
pub mod Escaped
