pub mod Run
pub mod Hand
