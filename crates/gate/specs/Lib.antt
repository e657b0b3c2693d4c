pub mod Scan
pub mod Gate
