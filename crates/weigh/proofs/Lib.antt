pub mod Bytes
pub mod Weights
pub mod Steps
pub mod Presses
