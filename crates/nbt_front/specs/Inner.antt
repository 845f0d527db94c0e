-- What only the contracts of private functions cite: a caller needs none of it.
pub mod Fronts
pub mod NetworkLines
pub mod Refusals
pub mod Tails
