-- What only the contracts of private functions cite: a caller needs none of it.
pub mod SambaRequests
pub mod Sharing
pub mod Telling
pub mod Passing
pub mod Taking
