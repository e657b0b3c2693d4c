pub mod Laws
pub mod Most
pub mod Numbers
pub mod Encoded
pub mod Whole
