pub mod Pass
pub mod Heads
pub mod Support
pub mod Ground
pub mod Rounds
