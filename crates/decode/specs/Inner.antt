pub mod Words
pub mod Taken
pub mod Pairs
pub mod Rows
pub mod Decode
