pub mod Laws
pub mod Sums
pub mod Ran
pub mod Dead
pub mod Put
pub mod Written
