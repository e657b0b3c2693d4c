pub mod Rules
pub mod Ran
pub mod Written
pub mod Dead
