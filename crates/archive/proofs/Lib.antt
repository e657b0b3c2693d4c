pub mod Tight
pub mod Whole
pub mod Stops
pub mod Parts
pub mod Told
pub mod Exact
