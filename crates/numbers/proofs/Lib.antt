pub mod Answer
pub mod Reasons
pub mod Stands
pub mod Places
