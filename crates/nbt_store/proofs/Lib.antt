pub mod WordLists
pub mod Seals
pub mod Spelled
pub mod Saying
pub mod WholeLines
pub mod Written
pub mod Members
pub mod Crashing
pub mod Asking
pub mod OneReading
-- whether a server goes on with what was kept
mod Deciding
-- whether a lease that was kept outlasts its silence
mod Outlasted
