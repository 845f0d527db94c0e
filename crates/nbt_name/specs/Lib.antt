pub mod Words
pub mod Scope
pub mod Wire
pub mod Numbers
pub mod Reading
pub mod Labels
pub mod Inner
