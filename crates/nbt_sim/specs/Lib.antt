pub mod Arguments
pub mod Drawing
pub mod Escaping
pub mod Inner
pub mod Line
pub mod Script
pub mod Words
