-- What several proofs share; the proof of a function is in the folder of its module and its name.

-- the first request that passes a test
pub mod Passing
-- the addresses that a machine listed
pub mod Machines
-- how long a lease lasts
pub mod Lasting
-- what is done with the first request that an answer serves
pub mod Serving
-- which claim octets spell, and which additional record they have
pub mod Reading
-- what is done keeps of the further addresses
pub mod Keeping
