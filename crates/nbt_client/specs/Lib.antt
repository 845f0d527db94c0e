pub mod Answers
pub mod Asking
pub mod Inner
pub mod Lookups
pub mod OneAnswer
pub mod Questions
pub mod Turning
