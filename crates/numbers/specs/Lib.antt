pub mod Answer
pub mod Number
pub mod Lists
pub mod Inner
pub mod Shown
