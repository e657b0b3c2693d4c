pub mod Laws
pub mod Look
pub mod Most
pub mod Encoded
pub mod Taken
pub mod Refusals
