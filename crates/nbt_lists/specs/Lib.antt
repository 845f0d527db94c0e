pub mod Rows
pub mod Written
