pub mod Laws
pub mod Written
pub mod Body
pub mod Rule
pub mod Stood
pub mod Writing
