-- What only the contracts of private functions cite: a caller needs none of it.
pub mod Starting
pub mod Ending
pub mod Resuming
pub mod Renewing
