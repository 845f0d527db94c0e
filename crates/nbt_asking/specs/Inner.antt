-- What only the contracts of private functions cite: a caller needs none of it.
pub mod Doing
