pub mod Sound
pub mod Fits
pub mod Limits
pub mod Accepted
pub mod Bytes
pub mod Cases
pub mod Places
