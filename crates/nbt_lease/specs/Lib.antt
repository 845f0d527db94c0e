pub mod Config
pub mod Drift
pub mod Numbers
pub mod Lease
pub mod Rules
pub mod Inner
