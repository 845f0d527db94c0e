-- What only the contracts of private functions cite: a caller needs none of it.
pub mod Hashing
pub mod Index
pub mod Tally
pub mod Standing
pub mod Placing
