pub mod Paper
pub mod Cases
