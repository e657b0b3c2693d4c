pub mod Copy
pub mod Hold
pub mod Closed
pub mod Performs
