-- What only the contracts of private functions cite: a caller needs none of it.
pub mod Calling
pub mod Coming
pub mod Gathering
pub mod Listening
pub mod Pieces
