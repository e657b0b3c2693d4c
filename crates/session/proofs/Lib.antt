pub mod Tight
pub mod Order
