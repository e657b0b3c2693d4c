pub mod Encode
pub mod Refusals
