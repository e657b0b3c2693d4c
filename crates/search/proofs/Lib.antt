pub mod Branches
pub mod Guesses
