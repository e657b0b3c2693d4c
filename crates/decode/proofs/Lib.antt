pub mod Taken
pub mod Room
pub mod Laid
pub mod Decoded
