-- What several proofs share; the proof of a function is in the folder of its module and its name.

-- the first element that passes a test: where it stands, and what a removal or a write there makes
pub mod Firsts
-- the earliest of some times, as one more comes
pub mod Times
-- what octets spell, by what a reader returned
pub mod Readings
-- which response confirms, and what it lists
pub mod Confirming
-- what an answer can do, case by case
pub mod Outcomes
-- what octets make of the inquiries under way, and which begins next
pub mod Hearing
-- the addresses of a list that is full
pub mod Listing
-- what octets claim
pub mod Claimed
