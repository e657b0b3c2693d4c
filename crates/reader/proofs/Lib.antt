pub mod ReadOut
pub mod Tight
