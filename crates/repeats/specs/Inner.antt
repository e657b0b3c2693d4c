pub mod Same
pub mod Marks
pub mod Slots
