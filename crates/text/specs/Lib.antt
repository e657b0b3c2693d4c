pub mod Line
pub mod Inner
pub mod Shown
