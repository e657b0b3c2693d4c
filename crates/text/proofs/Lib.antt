pub mod Lines
pub mod Room
pub mod Meaning
pub mod Examples
pub mod Tight
