pub mod Head
pub mod Unweighed
pub mod Sums
