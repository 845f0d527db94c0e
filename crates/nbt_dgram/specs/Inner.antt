-- What only the contracts of private functions cite: a caller needs none of it.
pub mod Accepting
pub mod Decoding
pub mod Joining
