pub mod Lines
pub mod Tight
