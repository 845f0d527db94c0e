pub mod Nbns
pub mod Watched
pub mod Said
pub mod Printed
pub mod Aging
