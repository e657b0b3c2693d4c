pub mod Place
pub mod Reader
pub mod ReadOut
