pub mod Weigh
pub mod Step
pub mod Press
