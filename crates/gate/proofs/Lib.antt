pub mod Tests
pub mod Calls
pub mod Past
pub mod Places
