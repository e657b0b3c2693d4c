pub mod Bytes
pub mod Decides
pub mod Search
