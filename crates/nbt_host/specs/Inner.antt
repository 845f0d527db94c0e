-- What only the contracts of private functions cite: a caller needs none of it.
pub mod Noting
pub mod Parts
pub mod ReleaseSteps
pub mod Through
