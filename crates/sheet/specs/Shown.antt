pub mod Encode
pub mod Cases
