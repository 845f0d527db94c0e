-- What several proofs share; the proof of a function is in the folder of its module and its name.
mod Asked
mod Each
pub mod Ends
mod Fixed
mod Named
