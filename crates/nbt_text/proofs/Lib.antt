-- What several proofs share; the proof of a function is in the folder of its module and its name.

-- what is left to read after a piece gets shorter
pub mod Splitting
-- texts that are written one after another
pub mod Joining
-- lists that are printed one after the other
pub mod Listing
-- decimal numbers as they are printed, and the marks between them: the text of an address
pub mod AddressText
-- how the parts of a name's text end, and what is left to read
pub mod NameText
-- what is printed of a name spells it
pub mod PrintedNames
-- how a word is cut, and that it spells one thing
pub mod Words
-- characters filled up to fifteen, and their suffix
pub mod Filling
-- what is printed of sixteen octets spells them
pub mod PrintedOctets
-- a scope behind a name's suffix
pub mod ScopedWords
-- a text that is read in two steps: what it spells, and whether that is taken
pub mod Taking
-- digits in hexadecimal, and what is known of an option
pub mod Deciding
-- the digits of a time, and the colon of an address
pub mod Times
