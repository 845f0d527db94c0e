pub mod Inner
pub mod Limits
pub mod Refusal
