pub mod Promise
pub mod Run
pub mod Inner
pub mod Shown
