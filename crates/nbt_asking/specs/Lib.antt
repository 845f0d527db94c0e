pub mod Inner
pub mod Steps
pub mod Ids
pub mod Flags
pub mod Desk
pub mod Port
pub mod Attending
pub mod Laws
