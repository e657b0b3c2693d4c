pub mod KindNumber
pub mod Laws
pub mod Apart
pub mod Head
pub mod Ran
pub mod Means
pub mod Written
