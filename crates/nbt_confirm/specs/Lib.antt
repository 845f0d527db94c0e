pub mod Firsts
pub mod Inquiries
pub mod Waiting
pub mod Further
pub mod Deciding
