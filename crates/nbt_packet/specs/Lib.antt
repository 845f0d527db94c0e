pub mod Numbers
pub mod Packet
pub mod Inner
pub mod Message
pub mod Text
pub mod Spelling
pub mod Reasons
