pub mod Counting
pub mod Here
pub mod Node
pub mod Numbers
pub mod Serve
pub mod Texts
