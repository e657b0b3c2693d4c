pub mod Laws
pub mod Copy
pub mod Weights
